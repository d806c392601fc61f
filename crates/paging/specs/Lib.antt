pub mod Fault
pub mod Frames
pub mod Places
