pub mod Pages
pub mod Played
pub mod Traced
