pub mod Types
pub mod Lines
pub mod Pieces
pub mod Table
