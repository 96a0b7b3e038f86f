-- What a host hands out and takes back, and what contracts see of it.
pub mod Lent
pub mod HostState
pub mod MemoryHome
