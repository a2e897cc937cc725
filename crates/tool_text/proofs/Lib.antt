mod Vectors
pub mod Keeping
pub mod Reaching
pub mod Whole
pub mod Marking
pub mod Legal
