pub mod StoreNames
pub mod Parts
pub mod Rule
pub mod Known
pub mod Steps
pub mod Marks
pub mod Making
