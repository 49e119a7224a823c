pub mod Types
pub mod Claims
pub mod Stands
