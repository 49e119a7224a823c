pub mod Long
pub mod Runs
