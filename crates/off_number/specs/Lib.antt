-- A number of an OFF text: what it is and what is promised of its answer; how it is read; how it is written; the laws of each.
pub mod OffNumber
pub mod OffNumberLaws
pub mod Reading
pub mod Shortest
pub mod PartLaws
pub mod ShortestLaws
pub mod Spelling
