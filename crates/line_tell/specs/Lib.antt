pub mod Tells
pub mod TellsLaws
