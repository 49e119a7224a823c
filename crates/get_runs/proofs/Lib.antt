pub mod Steps
pub mod Search
