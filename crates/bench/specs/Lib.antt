pub mod Judging
pub mod Table
pub mod Holding
pub mod Standing
pub mod Two
pub mod Exhibited
pub mod Putting
