pub mod Trade
pub mod Lists
pub mod Actions
pub mod Between
pub mod Advance
pub mod Turn
pub mod Jobs
pub mod Turned
pub mod Keep
pub mod Tests
pub mod Begin
pub mod Finish
pub mod Replaying
pub mod Reachable
pub mod History
pub mod Progress
mod Refusing
mod Wired
pub mod Records
pub mod Crowd
pub mod Clocks
pub mod Kept
pub mod Planning
pub mod Places
pub mod Plans
pub mod Wires
pub mod Steps
