mod Vectors
pub mod Turned
pub mod Turns
pub mod Steps
