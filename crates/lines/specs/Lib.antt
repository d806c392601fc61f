pub mod Hex
pub mod Levels
pub mod Lines
