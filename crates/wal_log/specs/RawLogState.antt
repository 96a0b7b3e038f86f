-- A log that was opened, as contracts see it.
use Rattle.std.specs.Prelude.{ℕ, List}
use Rattle.frame_journal.specs.JournalState.{JournalState}
use Rattle.wal_log.specs.declared.segment_numbers.SegmentNumbers.{SegmentNumbers}

-- The journals of its strips, in order; the segment that was to be the first; the number of the first entry and the one
-- after the last; and what is kept of each live segment.
pub record RawLogState (S : Type 0) : Type 0 where
  pub journals : List (JournalState S)
  pub first : ℕ
  pub start : ℕ
  pub end : ℕ
  pub segments : List SegmentNumbers
