pub mod Types
pub mod Results
pub mod Runs
