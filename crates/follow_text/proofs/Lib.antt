mod Vectors
pub mod Seen
pub mod Behind
pub mod Moves
pub mod Games
pub mod Steps
pub mod Judged
pub mod Tells
pub mod Played
