pub mod ReadWithin
