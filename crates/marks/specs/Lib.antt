pub mod Marks
pub mod Keys
pub mod Rising
pub mod Sorted
pub mod Changed
pub mod Promises
pub mod Bench
