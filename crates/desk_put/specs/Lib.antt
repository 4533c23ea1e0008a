pub mod Handled
pub mod RenewLaws
pub mod HandledLaws
pub mod PutLaws
