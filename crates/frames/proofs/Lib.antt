pub mod Runs
pub mod Repeated
