pub mod Trim
pub mod Marks
