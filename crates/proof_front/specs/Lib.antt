pub mod Cells
pub mod Numbers
pub mod Rows
pub mod Steps
pub mod Fronts
