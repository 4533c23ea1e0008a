pub mod Bounds
pub mod Cases
pub mod Counts
pub mod Laws
pub mod Measure
pub mod Order
pub mod Ring
pub mod Sign
