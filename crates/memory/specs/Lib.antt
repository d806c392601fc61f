pub mod Fault
pub mod Words
pub mod Slices
pub mod Halves
