-- What a segment keeps of its journal.
use Rattle.std.specs.Prelude.{◌≡◌, ◌⊎◌, ℕ, ◌+◌, ◌<◌, ◌≤◌, Bool, true, false, List, [], ◌++◌, length, drop, Ok}
use Rattle.rdb_base.specs.declared.entry.Entry.{Entry}
use Rattle.disk_model.specs.declared.strip.Strip.{Ghosts}
use Rattle.disk_model.specs.Calls.{IfTold}
use Rattle.frame_journal.specs.Devices.{OfBytes, OfImages}
use Rattle.frame_journal.specs.JournalState.{JournalState, is_ready, has_staged}
use Rattle.frame_journal.specs.Journals.{standing, with_staged, survivors}
use Rattle.entry_code.specs.Payloads.{entry_fields}
use Rattle.entry_code.specs.Batches.{BatchState}
use Rattle.entry_code.specs.declared.format.TheConstants.{ENTRY_MAX}
use Rattle.rdb_base.specs.declared.limits.TheConstants.{NUMBER_MAX}
use Rattle.wal_log.specs.declared.limits.TheConstants.{PENDING_MAX}
use Rattle.wal_log.specs.Logs.{alone, HasEntries}

-- the bytes have the synced entries, or those and the staged ones
abbrev pub HasEither : ℕ → ℕ → List Entry → List Entry → List ℕ → Type 0
HasEither number first synced written bytes = HasEntries number first synced bytes ⊎ HasEntries number first written bytes

pub record IsKept {S : Type 0} (strip : Ghosts S) (journal : JournalState S) (number first : ℕ) (synced written : List Entry) (headed : Bool) : Type 0 where
  pub stands : is_ready journal ≡ true → IfTold (strip.tells journal.strip) (alone number first (standing strip journal) ≡ Ok synced)
  pub stages : has_staged journal ≡ true → IfTold (strip.tells journal.strip) (alone number first (with_staged strip journal) ≡ Ok written)
  pub idle : has_staged journal ≡ false → written ≡ synced
  pub waits : is_ready journal ≡ false → IfTold (strip.tells journal.strip) (survivors strip journal ≡ [])
  pub none : headed ≡ false → (synced ≡ []) × (written ≡ [])
  pub ready : headed ≡ true → is_ready journal ≡ true
  pub heads : headed ≡ true → IfTold (strip.tells journal.strip) (0 < length (standing strip journal))
  pub bare : headed ≡ false → is_ready journal ≡ true → IfTold (strip.tells journal.strip) (standing strip journal ≡ [])
  pub bytes : OfBytes strip journal.strip (HasEither number first synced written)
  pub images : OfImages strip journal.strip (HasEither number first synced written)

-- the lists begin one with the other, and the batch has the rest
pub record IsCounted (number first : ℕ) (synced written entries : List Entry) (batch : BatchState) (headed : Bool) : Type 0 where
  pub front : written ≡ synced ++ drop (length synced) written
  pub whole : entries ≡ written ++ batch.entries
  pub numbered : batch.first ≡ first + length written
  pub here : batch.lent ≡ false
  pub few : length (entry_fields batch.entries) < PENDING_MAX + ENTRY_MAX
  pub least : number ≤ first
  pub most : first ≤ NUMBER_MAX
  pub empty : headed ≡ false → entries ≡ []
