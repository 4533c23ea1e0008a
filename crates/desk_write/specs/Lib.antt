-- Writing a shape of a desk: what it may answer and leave, and the laws of it.
pub mod Writing
pub mod WritingLaws
pub mod LoadedLaws
