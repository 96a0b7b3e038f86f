pub mod Worlds
pub mod Events
pub mod Refusals
pub mod States
pub mod Promises
