pub mod Requests
pub mod Repeated
