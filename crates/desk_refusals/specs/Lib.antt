pub mod Asked
pub mod Parts
