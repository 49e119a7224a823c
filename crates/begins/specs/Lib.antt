pub mod Types
pub mod Orders
pub mod Begun
