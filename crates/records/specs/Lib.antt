pub mod Types
pub mod Layout
pub mod Encoding
pub mod Decoding
pub mod Inverse
