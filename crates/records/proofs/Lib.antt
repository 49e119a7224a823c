pub mod Picks
pub mod Fits
pub mod Packed
pub mod Inverse
pub mod Returns
