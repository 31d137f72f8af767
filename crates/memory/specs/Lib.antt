-- Block memories: what calls answer, cells, bytes in parts, layouts of cells in bytes, the two kinds.
pub mod Answers
pub mod Cells
pub mod Parts
pub mod Layouts
pub mod Kinds
pub mod CellLaws
pub mod PartLaws
