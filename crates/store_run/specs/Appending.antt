-- An entry that is appended to a log.
use Rattle.std.specs.Prelude.{◌≡◌, ℕ, ◌+◌, ◌<◌, [], ◌∷◌, ◌++◌, true, length}
use Rattle.rdb_base.specs.declared.entry.Entry.{Entry}
use Rattle.rdb_base.specs.declared.limits.TheConstants.{NUMBER_MAX}
use Rattle.entry_code.specs.Payloads.{entry_fields}
use Rattle.wal_log.specs.declared.limits.TheConstants.{PENDING_MAX}
use Rattle.wal_log.specs.SegmentState.{SegmentState}

-- the log takes one entry more, where there is room for it
pub record MayAppend {S : Type 0} (log : SegmentState S) : Type 0 where
  pub headed : log.headed ≡ true
  pub pending : length (entry_fields log.batch.entries) < PENDING_MAX
  pub end : log.first + length log.entries < NUMBER_MAX

-- the log has this entry after those that it had, and nothing else changed but what is pending
pub record Appends {S : Type 0} (old : SegmentState S) (entry : Entry) (new : SegmentState S) : Type 0 where
  pub number : new.number ≡ old.number
  pub first : new.first ≡ old.first
  pub headed : new.headed ≡ true
  pub journal : new.journal ≡ old.journal
  pub synced : new.synced ≡ old.synced
  pub entries : new.entries ≡ old.entries ++ entry ∷ []
