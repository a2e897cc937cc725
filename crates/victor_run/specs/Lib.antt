pub mod Outcome
pub use Rattle.run_prove.specs.Planned
pub use Rattle.run_prove.specs.Proof
pub use Rattle.run_prove.specs.Proves
