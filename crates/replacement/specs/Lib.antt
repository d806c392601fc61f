pub mod Sizes
pub mod Asked
pub mod Recent
pub mod Around
pub mod Choices
pub mod Turns
