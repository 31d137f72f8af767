pub mod Firsts
pub mod Reading
pub mod Naming
pub mod Parting
