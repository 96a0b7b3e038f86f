pub mod Values
pub mod Editions
pub mod Reading
pub mod Answers
pub mod Laws
pub mod Told
