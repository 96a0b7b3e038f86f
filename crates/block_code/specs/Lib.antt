pub mod Blocks
pub mod Reading
pub mod Answers
pub mod Laws
