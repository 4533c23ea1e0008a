pub mod Numbers
pub mod Magnitude
pub mod NumberLaws
