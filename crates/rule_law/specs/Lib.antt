pub mod KeptFacts
pub mod Start
