pub mod Threat
pub mod Duel
pub mod Refusal
