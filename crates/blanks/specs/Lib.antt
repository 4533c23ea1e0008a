-- What a blank's corners are and what writing them may answer; then what the crate's own helpers give, and the laws of these.
pub mod Blanks
pub mod Chosen
pub mod Once
pub mod Order
