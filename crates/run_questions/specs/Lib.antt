pub mod Remarks
pub mod SizedFronts
pub mod Questions
pub mod Found
pub use Rattle.deep_search.specs.Planned
pub use Rattle.deep_search.specs.declared.solving.SearchStop
