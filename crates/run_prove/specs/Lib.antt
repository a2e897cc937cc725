pub mod Proof
pub mod Proves
pub use Rattle.run_questions.specs.Planned
