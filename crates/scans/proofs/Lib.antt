-- The laws that several proofs of the crate cite.
pub mod Sized
pub mod Fields
pub mod Answers
pub mod Exact
pub mod ResultsOnce
pub mod Within
