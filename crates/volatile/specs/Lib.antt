-- What a hopper keeps while it has power.
pub mod Radios
pub mod Sessions
