pub mod Plays
pub mod Turns
pub mod Steps
