pub mod Names
pub mod Printed
pub mod Rooms
pub mod Words
pub use Rattle.proof_lines.specs.Shape
