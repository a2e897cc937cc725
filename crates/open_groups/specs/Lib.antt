pub mod AnchorFields
pub mod GroupBits
