pub mod LowestLaws
pub mod RefusalLaws
