-- That an answer of a step, of a triangle or of a reader is the only one.
pub mod ResultsOnce
