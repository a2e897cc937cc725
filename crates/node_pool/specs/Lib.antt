pub mod Slots
pub mod Free
