pub mod Chain
pub mod Session
