pub mod Shown
pub mod OpenGroups
pub mod Ground
pub mod Standing
pub mod Walked
pub mod Links
pub use Rattle.rule_compat.specs.Written
