pub mod Types
pub mod Sizes
pub mod Split
pub mod Turns
pub mod Steps
