pub mod Exhibiting
pub mod Lists
pub mod Moving
pub mod Starred
pub mod Three
