pub mod Segments
pub mod Shape
