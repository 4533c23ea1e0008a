pub mod TypedLength
pub mod TypedLaws
pub mod Reading
pub mod ReadingLaws
pub mod Order
