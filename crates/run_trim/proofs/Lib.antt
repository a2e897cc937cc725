pub mod Trimming
pub mod Ends
