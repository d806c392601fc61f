pub mod First
pub mod Search
pub mod InRange
pub mod Modulo
pub mod Snoops
pub mod Ways
