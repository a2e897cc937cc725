pub mod Threats
pub mod Told
