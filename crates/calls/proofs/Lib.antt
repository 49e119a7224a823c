pub mod Opened
pub mod Answered
pub mod Stored
pub mod Runs
pub mod Same
