pub mod Types
pub mod Opens
