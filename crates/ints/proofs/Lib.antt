pub mod RingLaws
pub mod MeasureLaws
pub mod SignLaws
pub mod Quote
pub mod Tests
pub mod Known
pub mod OrderLaws
