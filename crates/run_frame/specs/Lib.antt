pub mod Streams
pub mod Texts
pub mod Ended
pub mod Stops
pub mod Reading
pub mod GameInput
pub use Rattle.text_words.specs.Lines
