pub mod Marked
pub mod Reach
pub mod Printed
