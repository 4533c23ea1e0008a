-- The laws that no definition of the crate rests on.
pub mod TextLaws
pub mod RunLaws
