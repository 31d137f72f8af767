-- Lemmas that the proofs of several functions share, and that other crates may cite.
pub mod Steps
