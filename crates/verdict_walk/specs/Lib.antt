pub mod Ends
pub mod EndLaws
pub mod Gather
pub mod GatherLaws
pub mod NoPairs
pub mod Points
pub mod PointLaws
