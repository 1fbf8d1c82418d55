pub mod Telling
pub mod Grouped
