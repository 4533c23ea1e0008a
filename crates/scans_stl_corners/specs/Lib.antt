-- What is kept of a file's corners and what reading a whole file may answer; then the laws of these, and what the crate's own helpers give.
pub mod Kept
pub mod KeptLaws
pub mod Holding
pub mod HoldingLaws
pub mod ReadingLaws
pub mod WholeLaws
pub mod WithinLaws
