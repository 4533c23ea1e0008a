pub mod Turns
pub mod Range
pub mod Table
