pub mod Checked
pub mod Stages
pub mod Steps
