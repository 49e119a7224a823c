pub mod Fields
pub mod Sizes
pub mod Headers
pub mod Turns
pub mod Trees
pub mod Maps
