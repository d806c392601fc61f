pub mod Blocks
pub mod Keeps
pub mod Loops
