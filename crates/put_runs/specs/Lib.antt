pub mod Types
pub mod Stands
