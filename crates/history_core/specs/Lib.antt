pub mod Sessions
pub mod Laws
pub mod Operations
pub mod OperationLaws
pub mod Passes
pub mod PassLaws
