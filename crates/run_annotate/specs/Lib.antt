pub mod Dear
pub mod Lines
pub mod Annotates
