pub mod Columns
pub mod Shown
pub mod Trails
pub mod Follows
