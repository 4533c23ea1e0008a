-- What a line asks to be saved, and the laws of it.
pub mod Saving
pub mod SavingLaws
