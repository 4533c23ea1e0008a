pub mod ExclusionLaws
pub mod NoGapLaws
