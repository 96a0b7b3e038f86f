pub mod Tries
pub mod Leaves
pub mod Nodes
pub mod Tables
pub mod Growths
pub mod Readiness
