pub mod Words
pub mod Play
pub mod Told
