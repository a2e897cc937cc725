pub mod Anchors
pub mod Along
pub mod Free
pub mod Numbers
pub mod Members
