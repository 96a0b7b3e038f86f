pub mod Reads
pub mod Versions
pub mod Indexes
pub mod Places
pub mod Searches
pub mod KeptAnchors
pub mod Laws
