-- Lemmas on the devices of a host, on counts of faults, and on what a script made of the bytes.
pub mod FirstLemmas
pub mod SystemLemmas
pub mod WellFormed
pub mod Failing
pub mod Serving
