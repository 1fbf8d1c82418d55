pub mod Takes
pub mod Carries
pub mod Purges
pub mod Clears
pub mod Blocks
pub mod Packed
