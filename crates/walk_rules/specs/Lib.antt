pub mod Walk
pub mod Steps
pub mod Answers
pub mod Choice
