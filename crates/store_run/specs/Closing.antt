-- What closing a store leaves.
use Rattle.std.specs.Prelude.{◌≡◌, ◌≢◌, ℕ, Bool, true, false, List, Option, Some, IfSome, Result, Ok, Err, OnOk}
use Rattle.fault_count.specs.Counts.{one_more}
use Rattle.disk_model.specs.Books.{BookName}
use Rattle.disk_model.specs.Piles.{Units, units_at, number_at, book_at}
use Rattle.disk_model.specs.declared.device_error.DeviceError.{DeviceError}
use Rattle.disk_model.specs.declared.device_error.DeviceError.TheVariants.{Fault, Memory}
use Rattle.disk_model.specs.declared.strip.Strip.{Ghosts}
use Rattle.frame_journal.specs.Devices.{SameStrip, OfBytes, OfImages, OfCrashes, Spans, CauseIn}
use Rattle.store_run.specs.StoreState.{StoreState}
use Rattle.store_run.specs.Stores.{ReopensSynced, ReopensWhole}

-- The strip that comes back: its bytes, and each crash image of them, reopen to the map after the first so many entries, no
-- fewer than were synced; so it was at each moment of the closing.
pub record ClosingCalls {S : Type 0} (strip : Ghosts S) (pass : StoreState S) (now : S) : Type 0 where
  pub content : OfBytes strip now (ReopensSynced pass)
  pub images : OfImages strip now (ReopensSynced pass)
  pub crash : OfCrashes strip pass.log.journal.strip now (ReopensSynced pass)
  pub time : Spans strip pass.log.journal.strip now
  pub same : SameStrip strip 8 pass.log.journal.strip now

-- it has all entries
pub record HasWhole {S : Type 0} (strip : Ghosts S) (pass : StoreState S) (now : S) : Type 0 where
  pub content : OfBytes strip now (ReopensWhole pass)
  pub images : OfImages strip now (ReopensWhole pass)

-- one unit more of its device, and all others as they were
pub record HasOneMore (unit : BookName) (old new : List (Option Units)) : Type 0 where
  pub number : number_at new unit.device ≡ one_more (number_at old unit.device)
  pub book : book_at new unit.device ≡ Some unit
  pub others : (d : ℕ) → d ≢ unit.device → units_at new d ≡ units_at old d

-- what a unit needs to join these: those of its device are of its book
abbrev pub IsUnitFor : DeviceError → List (Option Units) → Type 0
IsUnitFor (Fault unit) units = IfSome (book_at units unit.device) (λ book. book ≡ unit)
IsUnitFor Memory units = Unit {0}

-- the units after a flush that ended so, and whether memory ran out in it
abbrev pub FlushEnds : Result ℕ DeviceError → List (Option Units) → List (Option Units) → Bool → Type 0
FlushEnds (Ok number) old new short = (short ≡ false) × (new ≡ old)
FlushEnds (Err (Fault unit)) old new short = (short ≡ false) × HasOneMore unit old new
FlushEnds (Err Memory) old new short = (short ≡ true) × (new ≡ old)

-- How a store was closed. Of the strip that came back, what the closing flush answered, and what it then holds; of the units
-- that were handed in, what they became.
pub record IsClosed {S : Type 0} (strip : Ghosts S) (pass : StoreState S) (old new : List (Option Units)) (short : Bool) (now : S) : Type 0 where
  pub calls : ClosingCalls strip pass now
  pub flushed : Result ℕ DeviceError
  pub cause : CauseIn strip pass.log.journal.strip now flushed
  pub whole : OnOk flushed (HasWhole strip pass now)
  pub units : FlushEnds flushed old new short
