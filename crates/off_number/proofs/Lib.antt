-- The laws that no definition of the crate rests on.
pub mod PartLaws
pub mod ReadingLaws
pub mod ShortestLaws
pub mod ShortestOne
pub mod SpellingLaws
