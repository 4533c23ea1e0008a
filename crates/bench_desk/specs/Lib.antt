pub mod Handing
pub mod Replies
pub mod ReplyLaws
