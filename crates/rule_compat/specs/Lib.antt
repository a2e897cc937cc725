pub mod Written
pub mod Faults
pub mod Planned
pub mod ZoneFields
