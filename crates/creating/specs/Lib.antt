pub mod Types
pub mod Creates
