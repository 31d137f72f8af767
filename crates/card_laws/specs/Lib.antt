-- The worked cases of one hopper's card.
pub mod Bench
