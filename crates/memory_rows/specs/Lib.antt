pub mod Memories
pub mod Merges
