-- Decisions: block numbers in lists, reads, writes.
pub mod Numbers
pub mod Services
pub mod Reads
pub mod Writes
