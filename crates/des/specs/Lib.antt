pub mod Tables
pub mod Des
pub mod Rows
