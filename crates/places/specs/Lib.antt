pub mod Types
pub mod Shapes
