-- What an indicator keeps besides its memory.
pub mod Modes
pub mod Sendings
