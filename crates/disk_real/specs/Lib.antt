-- The devices of a process, as contracts see them.
pub mod Real
