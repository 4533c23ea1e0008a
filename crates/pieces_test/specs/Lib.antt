pub mod OrderTest
