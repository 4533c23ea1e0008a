pub mod Exclusion
pub mod Identities
pub mod Lists
pub mod NoGap
pub mod Ranges
pub mod Reaching
pub mod Vectors
pub mod Verdicts
