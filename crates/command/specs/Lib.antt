pub mod Slots
pub mod Commands
pub mod Headers
pub mod Bench
