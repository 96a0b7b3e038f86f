pub mod Chains
pub mod Tables
pub mod Splits
pub mod Refusals
