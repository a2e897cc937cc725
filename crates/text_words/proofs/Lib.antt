pub mod Digits
pub mod Cuts
pub mod Words
pub mod Rows
