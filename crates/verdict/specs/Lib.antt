pub mod AnswerLaws
pub mod Answers
pub mod Judged
pub mod Order
