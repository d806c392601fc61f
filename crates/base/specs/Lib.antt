pub mod Sizes
pub mod Blocks
pub mod Faults
