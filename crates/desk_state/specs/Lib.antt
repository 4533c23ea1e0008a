pub mod Desk
pub mod Lent
pub mod OrderLaws
pub mod Worked
