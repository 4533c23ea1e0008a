pub mod Cells
pub mod CellLaws
