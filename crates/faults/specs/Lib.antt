pub mod MachineFaults
pub mod TraceFaults
