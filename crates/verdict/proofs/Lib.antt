-- That two results of one question are one refusal, or verdicts of one kind.
pub mod ResultsOnce
