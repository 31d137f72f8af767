pub mod Written
pub mod Framing
