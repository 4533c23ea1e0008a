-- That an answer about a whole file is the only one.
pub mod ResultsOnce
