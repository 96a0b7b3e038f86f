pub mod Merging
pub mod Counting
pub mod Pieces
