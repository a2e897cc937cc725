pub mod Size
pub mod Words
pub mod Runs
pub mod WholeColumns
