pub mod Counts
pub mod Memory
pub mod Transfers
pub mod Lines
pub mod Reading
