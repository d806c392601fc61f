pub mod Found
pub mod Ranged
pub mod Supply
pub mod Choice
pub mod Filled
pub mod Swapped
