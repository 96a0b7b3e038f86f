-- Lemmas on the counts of a thing that is lent, and on a host that has back what it lent.
pub mod HostLemmas
pub mod LendingLemmas
pub mod MapLemmas
pub mod PlaceLemmas
