pub mod Anchors
pub mod Leaves
