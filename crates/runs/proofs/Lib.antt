pub mod Theorem
pub mod AfreshLaws
pub mod ToldLaws
