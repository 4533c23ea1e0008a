-- What reading an OFF text may answer, and what the two passes over it give; then the laws of these.
pub mod Corners
pub mod Passes
pub mod NumberLaws
pub mod LayoutLaws
