pub mod Games
pub mod Summary
