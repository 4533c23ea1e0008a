-- What several proofs of this crate cite.
pub mod Places
