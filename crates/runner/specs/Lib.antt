pub mod Sweeps
pub mod Complete
