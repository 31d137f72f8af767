-- The journal: marks, and the burns of a write.
pub mod Marks
pub mod Burns
