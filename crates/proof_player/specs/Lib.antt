pub mod Playing
pub mod Places
pub mod FollowFields
