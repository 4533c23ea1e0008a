-- The layout of OFF texts, and what the kernels that walk a text give; then the laws of both.
pub mod Off
pub mod Walk
pub mod OffLaws
pub mod WalkLaws
pub mod FaceLaws
pub mod TextLaws
