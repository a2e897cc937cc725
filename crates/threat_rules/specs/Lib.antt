pub mod Faults
pub mod Threatened
pub mod Ascending
