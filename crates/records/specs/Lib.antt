pub mod Faults
pub mod Records
pub mod Bytes
pub mod Traces
pub mod Read
pub mod Told
