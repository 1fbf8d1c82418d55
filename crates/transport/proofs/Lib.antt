pub mod Pairs
pub mod Tables
pub mod Replies
pub mod Many
pub mod Passes
pub mod Stored
pub mod Shapes
pub mod Gaps
