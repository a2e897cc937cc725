pub mod Begun
pub mod Follows
pub mod Turns
pub mod Reading
