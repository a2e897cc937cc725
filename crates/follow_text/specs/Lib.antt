pub mod Following
pub mod Follow
pub mod Told
