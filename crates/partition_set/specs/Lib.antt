pub mod Partitions
pub mod Bounds
pub mod Lookups
