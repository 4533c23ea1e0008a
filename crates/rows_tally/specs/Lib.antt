pub mod Counting
pub mod Following
pub mod Sums
pub mod Tallies
