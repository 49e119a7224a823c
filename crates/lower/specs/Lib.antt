pub mod Types
pub mod Tables
pub mod Steps
pub mod Search
