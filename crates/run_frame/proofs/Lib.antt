pub mod Inputs
pub mod Cuts
pub mod GameRead
pub mod Taken
pub mod Passing
pub mod Owed
