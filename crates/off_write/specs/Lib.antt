-- A shape's numbers as an OFF text: what is written, and the laws by which it is put down piece by piece.
pub mod Written
pub mod WrittenLaws
