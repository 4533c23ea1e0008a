pub mod Exits
pub mod Flat
pub mod Portal
pub mod Shift
pub mod Sizes
pub mod Round
pub mod Rounds
