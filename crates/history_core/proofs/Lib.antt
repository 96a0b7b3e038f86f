pub mod SessionLemmas
pub mod OperationLemmas
pub mod PassLemmas
