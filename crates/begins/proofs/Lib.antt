pub mod Begun
pub mod Ways
pub mod Same
