pub mod Checking
pub mod Index
pub mod KnownFields
pub mod Shown
pub mod Trail
pub mod TrailFields
