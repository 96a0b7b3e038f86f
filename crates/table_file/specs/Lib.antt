pub mod Tables
pub mod TableReading
pub mod Packing
pub mod Held
pub mod Answers
pub mod Laws
pub mod BlockPlaces
