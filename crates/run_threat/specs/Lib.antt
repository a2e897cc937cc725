pub mod Threatens
pub mod Turns
pub mod Steps
