pub mod Tested
pub mod Test
