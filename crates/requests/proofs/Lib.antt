pub mod Scans
pub mod InPieces
pub mod Table
