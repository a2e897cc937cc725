pub mod Turn
pub mod Read
pub mod Heads
pub mod Ends
