pub mod Collective
pub mod Part
pub mod Role
