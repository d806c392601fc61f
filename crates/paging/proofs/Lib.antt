pub mod Cells
pub mod Flat
