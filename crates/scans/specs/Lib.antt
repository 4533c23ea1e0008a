-- What a float means in steps, what a scan may answer, and what is shown; then the laws of these.
pub mod Floats
pub mod Scanned
pub mod Shown
pub mod Signs
pub mod Lower
pub mod Once
pub mod TakenWhen
pub mod Order
