-- Lemmas on lists.
pub mod PlaceLemmas
