pub mod Written
pub mod Measured
pub mod Runs
