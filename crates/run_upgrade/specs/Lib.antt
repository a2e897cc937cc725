pub mod Writing
pub mod Upgrades
