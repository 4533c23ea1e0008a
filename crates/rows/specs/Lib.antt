pub mod Rows
pub mod Cells
pub mod Changes
pub mod Masks
