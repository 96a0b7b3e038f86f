-- Lemmas on what a take from memory leaves, on calls that are interrupted, and on bytes on their way to a writer and
-- from a reader.
pub mod AttemptLemmas
pub mod GivenLemmas
pub mod TakeLemmas
