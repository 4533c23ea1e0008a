pub mod HeldLaws
pub mod Served
pub mod ServedLaws
