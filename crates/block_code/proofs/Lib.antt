pub mod StepLemmas
pub mod EndsLemmas
pub mod AgainLemmas
pub mod TakenLemmas
pub mod CheckLemmas
pub mod LentLemmas
pub mod WriteLemmas
