pub mod Bytes
pub mod Handling
pub mod MaskLaws
