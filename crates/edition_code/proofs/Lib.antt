pub mod NumberLemmas
pub mod ReadLemmas
pub mod WriteLemmas
pub mod FitLemmas
pub mod AgainLemmas
pub mod TakenLemmas
pub mod AnswerLemmas
