pub mod Network
pub mod Many
pub mod Stored
