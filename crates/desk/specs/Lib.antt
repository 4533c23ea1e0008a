pub mod CommandLaws
pub mod Commands
pub mod Order
