-- What an opening answers, and how it leaves a strip.
use Rattle.std.specs.Prelude.{◌≡◌, ◌⊎◌, ℕ, ◌≤◌, List, [], Err}
use Rattle.rdb_base.specs.declared.limits.TheConstants.{NUMBER_MAX}
use Rattle.fault_count.specs.Counts.{RoseByOne}
use Rattle.disk_model.specs.Books.{BookName}
use Rattle.disk_model.specs.declared.device_error.DeviceError.{DeviceError}
use Rattle.disk_model.specs.declared.device_error.DeviceError.TheVariants as devices
use Rattle.disk_model.specs.declared.strip.Strip.{Ghosts}
use Rattle.frame_journal.specs.Devices.{SameStrip, OfBytes, OfImages, OfCrashes, Spans}
use Rattle.frame_journal.specs.Frames.{frames_of, IsTornAt, HasNoTorn}
use Rattle.wal_log.specs.Logs.{alone}
use Rattle.wal_log.specs.declared.log_error.LogError.{LogError}
use Rattle.wal_log.specs.declared.log_error.LogError.TheVariants as logs
use Rattle.history_core.specs.Passes.{PassState}
use Rattle.store_run.specs.Reopening.{Reopens, ReopensTo, ReopensAlike}
use Rattle.store_run.specs.StoreState.{StoreState}
use Rattle.store_run.specs.Stores.{pass_of, history_of}
use Rattle.store_run.specs.declared.open_error.OpenError.{OpenError}
use Rattle.store_run.specs.declared.open_error.OpenError.TheVariants.{Device, TornHeader, BadEntry, LogGap, Memory}

-- a log's refusal as a store's
abbrev pub IsOpenErrorOf : LogError → OpenError → Type 0
IsOpenErrorOf (logs.Fault unit) error = error ≡ Device unit
IsOpenErrorOf (logs.TornHeader strip at) error = error ≡ TornHeader strip at
IsOpenErrorOf (logs.BadEntry strip frame at) error = error ≡ BadEntry strip frame at
IsOpenErrorOf (logs.LogGap want found) error = error ≡ LogGap want found
IsOpenErrorOf logs.Memory error = error ≡ Memory

-- a device's refusal as a store's
abbrev pub IsDeviceErrorOf : DeviceError → OpenError → Type 0
IsDeviceErrorOf (devices.Fault unit) error = error ≡ Device unit
IsDeviceErrorOf devices.Memory error = error ≡ Memory

-- These bytes of strip 0 are refused so: a torn header first; then frame by frame a wrong payload, or a number that does
-- not follow.
abbrev pub IsRefusedBy : OpenError → List ℕ → Type 0
IsRefusedBy (TornHeader strip at) bytes = (strip ≡ 0) × IsTornAt bytes at
IsRefusedBy (BadEntry strip frame at) bytes = HasNoTorn bytes × (alone 0 0 (frames_of bytes) ≡ Err (logs.BadEntry strip frame at))
IsRefusedBy (LogGap want found) bytes = HasNoTorn bytes × (alone 0 0 (frames_of bytes) ≡ Err (logs.LogGap want found))
IsRefusedBy (Device unit) bytes = Unit {0}
IsRefusedBy Memory bytes = Unit {0}

-- a device's failure is one unit of this book, whose count rose by that one; at any other refusal the count stayed
abbrev pub OpenCause : BookName → ℕ → ℕ → OpenError → Type 0
OpenCause book before now (Device unit) = (unit ≡ book) × RoseByOne before now
OpenCause book before now (TornHeader strip at) = now ≡ before
OpenCause book before now (BadEntry strip frame at) = now ≡ before
OpenCause book before now (LogGap want found) = now ≡ before
OpenCause book before now Memory = now ≡ before

-- a crash might have left these bytes before the opening, or they reopen to the same as the bytes from before it
abbrev pub IsAsBefore : {S : Type 0} → Ghosts S → S → List ℕ → Type 0
IsAsBefore strip old image = strip.may_leave old image ⊎ ReopensAlike (strip.content old) image

-- What an opening leaves of the strip. At each moment within it a crash leaves what it might have left before, or bytes
-- that reopen to the same.
pub record OpeningCalls {S : Type 0} (strip : Ghosts S) (old new : S) : Type 0 where
  pub bytes : OfBytes strip new (ReopensAlike (strip.content old))
  pub images : OfImages strip new (IsAsBefore strip old)
  pub crash : OfCrashes strip old new (IsAsBefore strip old)
  pub time : Spans strip old new
  pub same : SameStrip strip 11 old new

-- a caller that has entered nothing yet, and knows that all it found is synced
pub record IsFresh (pass : PassState) : Type 0 where
  pub caller : pass.caller ≡ 0
  pub ordinal : pass.ordinal ≡ 0
  pub none : pass.seen.entries ≡ []
  pub safe : pass.seen.first ≤ pass.safe
  pub within : pass.seen.first ≤ NUMBER_MAX

-- what an opening makes of a strip: a fresh pass that has seen the map to which the strip reopens
pub record IsOpened {S : Type 0} (strip : Ghosts S) (old : S) (pass : StoreState S) : Type 0 where
  pub fresh : IsFresh (pass_of strip pass)
  pub reopened : OfBytes strip old (ReopensTo (history_of pass).base (history_of pass).first)
  pub whole : OfImages strip pass.log.journal.strip (ReopensTo (history_of pass).base (history_of pass).first)
  pub count : strip.count pass.log.journal.strip ≡ strip.count old
  pub calls : OpeningCalls strip old pass.log.journal.strip

-- the strip of a store that is not opened, and why it is not
pub record IsRefused {S : Type 0} (strip : Ghosts S) (error : OpenError) (old new : S) : Type 0 where
  pub refused : OfBytes strip old (IsRefusedBy error)
  -- a strip whose bytes reopen to no map is not written
  pub kept : OfBytes strip old (λ bytes. (strip.content new ≡ bytes) ⊎ Reopens bytes)
  pub cause : OpenCause (strip.book old) (strip.count old) (strip.count new) error
  pub calls : OpeningCalls strip old new
