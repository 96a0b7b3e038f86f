pub mod ChainLemmas
pub mod PairLemmas
pub mod ReplaceLemmas
pub mod AnchorLemmas
pub mod TableLemmas
pub mod CallLemmas
pub mod MoveLemmas
pub mod SplitLemmas
