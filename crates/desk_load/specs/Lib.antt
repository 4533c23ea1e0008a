pub mod LoadLaws
pub mod Loading
