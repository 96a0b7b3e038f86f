pub mod ReadLemmas
pub mod KeptLemmas
pub mod PairLemmas
pub mod OpenLemmas
