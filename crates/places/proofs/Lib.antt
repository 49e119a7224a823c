pub mod Ranges
pub mod Next
pub mod Blocks
