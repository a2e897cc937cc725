pub mod Lists
pub mod Planned
pub mod Search
pub mod Tables
pub use Rattle.position_table.specs.Table
