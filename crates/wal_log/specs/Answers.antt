-- What reading a log answers.
use Rattle.std.specs.Prelude.{◌≡◌, ℕ, List, Result, Ok, Err}
use Rattle.disk_model.specs.Books.{BookName}
use Rattle.fault_count.specs.Counts.{RoseByOne}
use Rattle.disk_model.specs.declared.strip.Strip.{Ghosts}
use Rattle.frame_journal.specs.Devices.{IsSynced}
use Rattle.frame_journal.specs.Frames.{frames_of, IsTornAt, HasNoTorn}
use Rattle.frame_journal.specs.declared.journal_error.JournalError.{JournalError}
use Rattle.wal_log.specs.declared.log_error.LogError.{LogError}
use Rattle.wal_log.specs.declared.log_error.LogError.TheVariants.{Fault, TornHeader, BadEntry, LogGap, Memory}
use Rattle.frame_journal.specs.declared.journal_error.JournalError.TheVariants as journals
use Rattle.wal_log.specs.Logs.{strip_of, alone}

-- if reading the frames fails, the error is the one that the definition has there, or out of memory
abbrev pub FailsLog : {Y : Type 0} → LogError → Result Y LogError → Type 0
FailsLog Memory read = Unit {0}
FailsLog (Fault unit) read = ⊥
FailsLog (TornHeader strip at) read = ⊥
FailsLog (BadEntry strip frame at) read = read ≡ Err (BadEntry strip frame at)
FailsLog (LogGap want found) read = read ≡ Err (LogGap want found)

abbrev pub GivesLog : {X Y : Type 0} → (X → Y) → Result X LogError → Result Y LogError → Type 0
GivesLog view (Ok x) read = read ≡ Ok (view x)
GivesLog view (Err e) read = FailsLog e read

-- a log is refused: a torn header first, then what its frames say
abbrev pub IsRefused : ℕ → ℕ → LogError → List ℕ → Type 0
IsRefused number first (TornHeader strip at) bytes = (strip ≡ strip_of number) × IsTornAt bytes at
IsRefused number first (BadEntry strip frame at) bytes = HasNoTorn bytes × (alone number first (frames_of bytes) ≡ Err (BadEntry strip frame at))
IsRefused number first (LogGap want found) bytes = HasNoTorn bytes × (alone number first (frames_of bytes) ≡ Err (LogGap want found))
IsRefused number first (Fault unit) bytes = Unit {0}
IsRefused number first Memory bytes = Unit {0}

-- an error that speaks of a strip's bytes speaks of bytes that are synced
abbrev pub IsOfSynced : {S : Type 0} → Ghosts S → S → LogError → Type 0
IsOfSynced strip s (TornHeader number at) = IsSynced strip s
IsOfSynced strip s (BadEntry number frame at) = IsSynced strip s
IsOfSynced strip s (LogGap want found) = IsSynced strip s
IsOfSynced strip s (Fault unit) = Unit {0}
IsOfSynced strip s Memory = Unit {0}

-- a journal's refusal, as that of a log
abbrev pub LogErrorOf : ℕ → JournalError → LogError → Type 0
LogErrorOf number (journals.Fault unit) error = error ≡ Fault unit
LogErrorOf number (journals.TornHeader at) error = error ≡ TornHeader (strip_of number) at
LogErrorOf number journals.Memory error = error ≡ Memory

-- a fault is a unit of this book, whose count rose; at any other error the count stayed
abbrev pub LogCause : BookName → ℕ → ℕ → LogError → Type 0
LogCause book before now (Fault unit) = (unit ≡ book) × RoseByOne before now
LogCause book before now (TornHeader strip at) = now ≡ before
LogCause book before now (BadEntry strip frame at) = now ≡ before
LogCause book before now (LogGap want found) = now ≡ before
LogCause book before now Memory = now ≡ before
