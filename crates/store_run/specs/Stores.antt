-- A store's pass as what its caller knows of the history, and what its calls leave of the strip.
use Rattle.std.specs.Prelude.{◌≡◌, ℕ, ◌≤◌, List, [], ◌∷◌, ◌++◌, length, Result, Ok, Err}
use Rattle.rdb_base.specs.declared.change.Change.{Change}
use Rattle.rdb_base.specs.Maps.{applied_all}
use Rattle.rdb_base.specs.Histories.{History, end}
use Rattle.disk_model.specs.declared.strip.Strip.{Ghosts}
use Rattle.frame_journal.specs.Devices.{SameStrip, OfBytes, OfImages, OfCrashes, Spans}
use Rattle.history_core.specs.Passes.{PassState, entry_of}
use Rattle.store_run.specs.StoreState.{StoreState}
use Rattle.store_run.specs.Reopening.{ReopensTo, ReopensWithin}

-- the history: the map that the opening found, the number of the first entry since, and the entries since
abbrev pub history_of : {S : Type 0} → StoreState S → History
history_of s = record { base = applied_all [] s.opened; first = length s.opened; entries = s.made }

-- each entry below this number is synced
abbrev pub safe_of : {S : Type 0} → StoreState S → ℕ
safe_of s = length s.log.synced

-- what the one caller knows; the failures that it was told are those of the strip
abbrev pub pass_of : {S : Type 0} → Ghosts S → StoreState S → PassState
pass_of strip s = record {
  caller = 0;
  ordinal = length s.made;
  seen = history_of s;
  safe = safe_of s;
  next = 0;
  told = strip.count s.log.journal.strip;
}

-- these bytes reopen to the map after the first so many entries, no fewer than are synced
abbrev pub ReopensSynced : {S : Type 0} → StoreState S → List ℕ → Type 0
ReopensSynced s = ReopensWithin (history_of s) (safe_of s)

-- these bytes reopen to the map after all entries
abbrev pub ReopensWhole : {S : Type 0} → StoreState S → List ℕ → Type 0
ReopensWhole s = ReopensTo (applied_all (applied_all [] s.opened) s.made) (end (history_of s))

-- The call made at most so many calls of the strip. At each moment within them each crash image reopens to the map after
-- the first so many entries from before the call, no fewer than were synced then.
pub record CallsOf {S : Type 0} (strip : Ghosts S) (most : ℕ) (old new : StoreState S) : Type 0 where
  pub crash : OfCrashes strip old.log.journal.strip new.log.journal.strip (ReopensSynced old)
  pub time : Spans strip old.log.journal.strip new.log.journal.strip
  pub same : SameStrip strip most old.log.journal.strip new.log.journal.strip

-- nothing was entered, and no fewer entries are synced
pub record Stays {S : Type 0} (old new : StoreState S) : Type 0 where
  pub opened : new.opened ≡ old.opened
  pub made : new.made ≡ old.made
  pub safe : safe_of old ≤ safe_of new

-- if the update succeeded, just its entry was entered, under the next number; if it was refused, none
abbrev pub EntersOnly : {S E : Type 0} → StoreState S → List ℕ → Change → Result ℕ E → StoreState S → Type 0
EntersOnly old key change (Ok number) new =
    (number ≡ end (history_of old)) × (new.opened ≡ old.opened) × (new.made ≡ old.made ++ entry_of 0 (length old.made) key change ∷ [])
EntersOnly old key change (Err error) new = Stays old new
