pub mod Lists
pub mod Places
pub mod Sizes
pub mod Numbering
pub mod Keeping
pub mod Totals
