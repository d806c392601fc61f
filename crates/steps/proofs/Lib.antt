pub mod Attaching
pub mod Rooming
