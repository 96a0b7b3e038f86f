pub mod SumLemmas
pub mod SetLemmas
pub mod LookupLemmas
pub mod OneSetLemmas
pub mod SeveralLemmas
