-- What the opening of a log of several segments answers.
use Rattle.std.specs.Prelude.{◌≡◌, ◌⊎◌, ℕ, ◌+◌, List, [], ◌∷◌, map, Ok, Err}
use Rattle.std.specs.List.{AllByRecursion}
use Rattle.disk_model.specs.declared.limits.TheConstants.{LOG_STRIPS}
use Rattle.disk_model.specs.declared.strip.Strip.{Ghosts}
use Rattle.frame_journal.specs.Frames.{frames_of, IsTornAt, HasNoTorn}
use Rattle.wal_log.specs.declared.log_error.LogError.{LogError}
use Rattle.wal_log.specs.declared.log_error.LogError.TheVariants.{Fault, TornHeader, BadEntry, LogGap, Memory}
use Rattle.wal_log.specs.LogValues.{LogValue, numbers_of}
use Rattle.wal_log.specs.RawLogState.{RawLogState}
use Rattle.wal_log.specs.Segments.{log_of}
use Rattle.wal_log.specs.Strips.{AreSynced, AllCountsStay, OneCountRose}

-- no header is torn on strips with these bytes, and they have this log
pub record HasLog (first : ℕ) (log : LogValue) (strips : List (List ℕ)) : Type 0 where
  pub whole : AllByRecursion HasNoTorn strips
  pub read : log_of first (map frames_of strips) ≡ Ok log

-- of strips with these bytes, of which the first is number `next`, the lowest one with a torn header is this, there
abbrev pub IsFirstTorn : ℕ → ℕ → ℕ → List (List ℕ) → Type 0
IsFirstTorn strip at next [] = ⊥
IsFirstTorn strip at next (bytes ∷ strips) = ((strip ≡ next) × IsTornAt bytes at) ⊎ (HasNoTorn bytes × IsFirstTorn strip at (next + 1) strips)

-- an error from before any frame is decoded: a torn header is the lowest strip's that has one
abbrev pub IsTornFirst : LogError → List (List ℕ) → Type 0
IsTornFirst (TornHeader strip at) strips = IsFirstTorn strip at 0 strips
IsTornFirst (BadEntry strip frame at) strips = ⊥
IsTornFirst (LogGap want found) strips = ⊥
IsTornFirst (Fault unit) strips = Unit {0}
IsTornFirst Memory strips = Unit {0}

-- no header is torn on strips with these bytes, and for this reason their frames are no log
pub record IsNoLog (first : ℕ) (error : LogError) (strips : List (List ℕ)) : Type 0 where
  pub whole : AllByRecursion HasNoTorn strips
  pub read : log_of first (map frames_of strips) ≡ Err error

-- why strips with these bytes have no log: the lowest torn header first, then what their frames say
abbrev pub IsLogRefused : ℕ → LogError → List (List ℕ) → Type 0
IsLogRefused first (TornHeader strip at) strips = IsFirstTorn strip at 0 strips
IsLogRefused first (BadEntry strip frame at) strips = IsNoLog first (BadEntry strip frame at) strips
IsLogRefused first (LogGap want found) strips = IsNoLog first (LogGap want found) strips
IsLogRefused first (Fault unit) strips = Unit {0}
IsLogRefused first Memory strips = Unit {0}

-- an error that speaks of bytes speaks of bytes that are synced
abbrev pub AreOfSynced : {S : Type 0} → Ghosts S → List S → LogError → Type 0
AreOfSynced strip strips (TornHeader number at) = AreSynced strip (number + 1) strips
AreOfSynced strip strips (BadEntry number frame at) = AreSynced strip LOG_STRIPS strips
AreOfSynced strip strips (LogGap want found) = AreSynced strip LOG_STRIPS strips
AreOfSynced strip strips (Fault unit) = Unit {0}
AreOfSynced strip strips Memory = Unit {0}

-- a fault is the unit of one strip's book, whose count rose by one; but for that, each count stayed
abbrev pub OpenCause : {S : Type 0} → Ghosts S → List S → List S → LogError → Type 0
OpenCause strip olds news (Fault unit) = OneCountRose strip unit olds news
OpenCause strip olds news (TornHeader number at) = AllCountsStay strip olds news
OpenCause strip olds news (BadEntry number frame at) = AllCountsStay strip olds news
OpenCause strip olds news (LogGap want found) = AllCountsStay strip olds news
OpenCause strip olds news Memory = AllCountsStay strip olds news

-- a raw log keeps the numbers of this content
pub record Numbers {S : Type 0} (first : ℕ) (raw : RawLogState S) (log : LogValue) : Type 0 where
  pub first_is : raw.first ≡ first
  pub start : raw.start ≡ log.start
  pub end : raw.end ≡ log.end
  pub segments : raw.segments ≡ map numbers_of log.segments
