pub mod Types
pub mod Verdicts
