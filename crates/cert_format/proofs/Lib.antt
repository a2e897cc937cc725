pub mod Names
pub mod Spaced
pub mod Words
