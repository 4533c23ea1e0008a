pub mod Parted
pub mod Behind
pub mod BehindLaws
pub mod Named
pub mod NamedLaws
pub mod Printed
pub mod PrintedLaws
