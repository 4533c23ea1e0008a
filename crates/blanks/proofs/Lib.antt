-- The laws that several proofs of the crate cite, and that an answer is the only one.
pub mod Tables
pub mod Sizes
pub mod ResultsOnce
