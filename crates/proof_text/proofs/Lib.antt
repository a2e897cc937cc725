mod Vectors
pub mod Append
pub mod Sound
pub mod Refusals
pub mod Words
pub mod Spelled
pub mod Pieces
pub mod Fold
pub mod Accepted
pub mod Whole
pub mod Fitting
pub mod Written
pub mod Upgraded
pub mod First
pub mod Checking
pub use Rattle.plan_text.proofs.Spaced
