mod Vectors
pub mod Answers
pub mod Fitting
