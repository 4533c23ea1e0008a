pub mod Print
pub mod PrintLaws
