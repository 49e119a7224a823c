pub mod Loops
pub mod Entries
pub mod Parts
pub mod Zones
