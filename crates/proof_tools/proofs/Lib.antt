pub mod Marking
pub mod Agreeing
pub mod Putting
pub mod Printing
