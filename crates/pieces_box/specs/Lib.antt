pub mod ShapeBox
pub mod EndsLaws
pub mod NearLaws
pub mod Apart
pub mod ApartLaws
