pub mod Faults
pub mod Elements
pub mod Lists
pub mod ListLaws
