pub mod KeyFields
pub mod Keys
