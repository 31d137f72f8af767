-- One hopper's card.
pub mod Signatures
pub mod Reactions
pub mod Sources
pub mod Outcomes
