pub mod Carried
pub mod Arms
pub mod Stepped
pub mod Runs
