pub mod Instance
pub mod Driven
