pub mod SafeSets
pub mod Answering
pub mod Pairings
