pub mod Refusals
pub mod Stages
pub mod Steps
pub mod Recounts
