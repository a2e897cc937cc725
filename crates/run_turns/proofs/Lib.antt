pub mod Got
pub mod Judged
pub mod Starting
pub mod Plays
