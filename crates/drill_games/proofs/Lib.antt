pub mod Columns
pub mod Played
pub mod Vectors
pub mod Legal
