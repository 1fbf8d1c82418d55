pub mod Coding
pub mod Arith
pub mod Calls
pub mod Layer
pub mod Steps
pub mod Takes
