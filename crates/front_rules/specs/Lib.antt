pub mod Counts
pub mod Front
pub mod Path
