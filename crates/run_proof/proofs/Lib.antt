mod Vectors
pub mod Begun
pub mod Stand
pub mod Steps
pub mod Loop
pub mod Taking
pub mod Known
pub mod Heads
pub mod Judging
pub mod Named
pub mod Texts
pub use Rattle.cert_checker.proofs.Follows
