pub mod Fronts
pub mod Whole
pub mod Steps
pub mod Answered
pub mod Ranges
pub mod Telling
