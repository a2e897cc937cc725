pub use Rattle.rule_law.specs.KeptFacts
