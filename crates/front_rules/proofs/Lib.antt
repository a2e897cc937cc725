mod Vectors
pub mod Numbers
pub mod Updated
pub mod Settled
