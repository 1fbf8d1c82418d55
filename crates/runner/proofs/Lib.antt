pub mod Running
pub mod Completing
