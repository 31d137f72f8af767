-- One hopper without its keys.
pub mod Windows
pub mod ReadsAs
pub mod Stores
