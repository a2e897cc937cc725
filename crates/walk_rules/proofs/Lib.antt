mod Vectors
pub mod Lists
pub mod Fitting
pub mod Walks
pub mod Steps
pub mod Given
pub mod Fast
pub mod Choices
