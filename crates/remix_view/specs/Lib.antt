pub mod Selectors
pub mod Views
pub mod Spots
pub mod KeptSegments
