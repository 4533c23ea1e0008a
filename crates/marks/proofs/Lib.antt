pub mod Order
pub mod Cells
pub mod Buffer
pub mod ChangedLaws
