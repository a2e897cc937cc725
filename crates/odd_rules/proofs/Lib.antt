mod Vectors
pub mod Pairs
pub mod Strategy
pub mod Wins
pub mod Tests
pub mod First
pub mod Refusals
pub mod Theorems
pub mod RefusalWords
