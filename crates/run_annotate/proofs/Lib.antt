pub mod Dear
pub mod Ends
pub mod Lining
