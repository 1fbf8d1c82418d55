pub mod Boxes
pub mod Calls
pub mod Rows
pub mod Searches
pub mod Words
