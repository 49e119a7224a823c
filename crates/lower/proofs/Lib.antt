pub mod Tables
pub mod Entries
pub mod Children
pub mod Leaf
pub mod Sums
pub mod Searches
