pub mod Grammar
pub mod Reading
pub mod Messages
pub mod Filling
pub mod Decoding
pub mod Laws
