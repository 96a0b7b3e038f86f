pub mod Heads
pub mod Merging
pub mod Packing
pub mod Costs
