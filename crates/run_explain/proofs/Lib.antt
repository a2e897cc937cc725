pub mod Explaining
pub mod Ends
