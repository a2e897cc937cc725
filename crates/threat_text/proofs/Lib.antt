mod Vectors
pub mod Turns
pub mod Steps
