pub mod Payloads
pub mod Answers
pub mod Laws
pub mod Batches
