pub mod Requests
pub mod RequestLaws
