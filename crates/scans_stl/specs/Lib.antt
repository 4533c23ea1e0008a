-- A file of the scanner: its shape, its triangles and its corners in steps, and what one step may answer; then the laws of these.
pub mod Stl
pub mod StlLaws
pub mod Steps
pub mod Reading
pub mod StepLaws
