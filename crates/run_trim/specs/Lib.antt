pub mod Trims
