pub mod KeysLaws
pub mod ShapeLaws
pub mod TurnedLaws
