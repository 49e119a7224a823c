pub mod Cpus
pub mod Maps
