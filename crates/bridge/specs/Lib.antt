pub mod Fits
pub mod Given
pub mod Outcome
pub mod Request
