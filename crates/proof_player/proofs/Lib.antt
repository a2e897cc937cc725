pub mod Settled
pub mod Begun
pub mod Answered
pub mod Going
