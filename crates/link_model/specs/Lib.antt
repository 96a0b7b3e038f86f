-- What a stream's calls do, and when they may fail.
pub mod Attempts
pub mod Gathered
pub mod MemoryStreams
pub mod Calls
pub mod Streams
