-- What a call of a segment leaves of it, and what it did on the strip.
use Rattle.std.specs.Prelude.{◌≡◌, ℕ, ◌≤◌, List, length}
use Rattle.disk_model.specs.declared.strip.Strip.{Ghosts}
use Rattle.frame_journal.specs.Devices.{SameStrip, OfCrashes, Spans}
use Rattle.wal_log.specs.SegmentState.{SegmentState}
use Rattle.wal_log.specs.Logs.{HasEntries, HasFrontOf}

-- the same segment, with the same entries, of which no fewer are synced
pub record SameEntries {S : Type 0} (old new : SegmentState S) : Type 0 where
  pub number : new.number ≡ old.number
  pub first : new.first ≡ old.first
  pub entries : new.entries ≡ old.entries
  pub least : length old.synced ≤ length new.synced

-- these bytes have the first so many of the segment's entries, no fewer than are synced
abbrev pub HasFront : {S : Type 0} → SegmentState S → List ℕ → Type 0
HasFront segment = HasFrontOf segment.number segment.first segment.entries (length segment.synced)

-- these bytes have all of the segment's entries
abbrev pub HasAll : {S : Type 0} → SegmentState S → List ℕ → Type 0
HasAll segment = HasEntries segment.number segment.first segment.entries

-- The call made at most so many calls of the strip. At each moment within them each crash image has the first so many
-- entries, no fewer than were synced before.
pub record StripCalls {S : Type 0} (strip : Ghosts S) (most : ℕ) (old new : SegmentState S) : Type 0 where
  pub crash : OfCrashes strip old.journal.strip new.journal.strip (HasFront old)
  pub time : Spans strip old.journal.strip new.journal.strip
  pub same : SameStrip strip most old.journal.strip new.journal.strip

-- what is in the segment but not in its strip's hands stays, and so does what is known to be synced
pub record KeepsLists {S : Type 0} (old new : SegmentState S) : Type 0 where
  pub number : new.number ≡ old.number
  pub first : new.first ≡ old.first
  pub entries : new.entries ≡ old.entries
  pub synced : new.synced ≡ old.synced
  pub written : new.written ≡ old.written
  pub batch : new.batch ≡ old.batch
