pub mod Prefixes
pub mod LineLemmas
pub mod Reading
pub mod Windows
pub mod FirstByte
