pub mod PartingLemmas
pub mod KeyPlaceLemmas
pub mod LeafLemmas
