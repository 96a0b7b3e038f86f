pub mod Published
pub mod Rolls
