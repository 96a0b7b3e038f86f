pub mod Answering
pub mod Refusals
pub mod StoreCalls
pub mod Telling
pub mod Conversations
pub mod Turns
pub mod Laws
