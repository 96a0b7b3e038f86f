pub mod RowLemmas
pub mod ReopenLemmas
pub mod MoveLemmas
pub mod OpenLemmas
