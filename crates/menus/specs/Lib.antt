pub mod Lines
pub mod Scan
pub mod LineLaws
pub mod ScanLaws
