pub mod NoGap
pub mod NoGapLaws
pub mod Right
pub mod RowLaws
