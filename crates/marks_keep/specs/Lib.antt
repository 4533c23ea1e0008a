pub mod Slide
pub mod SlideLaws
