pub mod Played
pub mod Listed
