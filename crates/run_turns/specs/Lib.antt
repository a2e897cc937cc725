pub mod Turns
pub mod Steps
pub mod Games
pub mod Inputs
