-- What comes of a run, and the status that the program ends with.
use Rattle.std.specs.Prelude.{◌≡◌, ◌⊎◌, ℕ, Bool, true, false, Option, Some, None}
use Rattle.disk_model.specs.declared.device_error.DeviceError.{DeviceError}
use Rattle.disk_model.specs.declared.device_error.DeviceError.TheVariants as device
use Rattle.store_run.specs.declared.open_error.OpenError.{OpenError}
use Rattle.store_run.specs.declared.open_error.OpenError.TheVariants as open_error
use Rattle.session_core.specs.declared.session_end.SessionEnd.{SessionEnd}
use Rattle.session_core.specs.declared.session_end.SessionEnd.TheVariants.{End, Quit, Bad, Cut, Spent, SourceFault, SinkFault, Memory}
use Rattle.remixdb.specs.declared.outcome.Outcome.{Outcome}
use Rattle.remixdb.specs.declared.outcome.Outcome.TheVariants.{Done, BadMessage, UnknownWords, TornHeader, BadEntry, LogGap, DeviceFailed, StreamFailed, OutOfMemory}

-- the status of each outcome
abbrev pub status_of : Outcome → ℕ
status_of Done = 0
status_of BadMessage = 1
status_of UnknownWords = 2
status_of (TornHeader strip at) = 3
status_of (BadEntry strip frame at) = 3
status_of (LogGap want found) = 3
status_of (DeviceFailed device) = 4
status_of StreamFailed = 5
status_of OutOfMemory = 6

-- what came of a session that ended so
abbrev pub outcome_of_end : SessionEnd → Outcome
outcome_of_end End = Done
outcome_of_end Quit = Done
outcome_of_end (Bad at code) = BadMessage
outcome_of_end (Cut at) = BadMessage
outcome_of_end Spent = BadMessage
outcome_of_end SourceFault = StreamFailed
outcome_of_end SinkFault = StreamFailed
outcome_of_end Memory = OutOfMemory

-- What came of a run: out of memory comes first, then the least device of which there is a unit, and then how the
-- session ended.
abbrev pub outcome_of_run : Bool → Option ℕ → SessionEnd → Outcome
outcome_of_run true failed end = OutOfMemory
outcome_of_run false failed Memory = OutOfMemory
outcome_of_run false (Some number) end = DeviceFailed number
outcome_of_run false None end = outcome_of_end end

-- what came of devices that were not handed out
abbrev pub outcome_of_failure : DeviceError → Outcome
outcome_of_failure (device.Fault unit) = DeviceFailed unit.device
outcome_of_failure device.Memory = OutOfMemory

-- what came of an opening that was refused
abbrev pub outcome_of_refusal : OpenError → Outcome
outcome_of_refusal (open_error.Device unit) = DeviceFailed unit.device
outcome_of_refusal (open_error.TornHeader strip at) = TornHeader strip at
outcome_of_refusal (open_error.BadEntry strip frame at) = BadEntry strip frame at
outcome_of_refusal (open_error.LogGap want found) = LogGap want found
outcome_of_refusal open_error.Memory = OutOfMemory

-- the statuses that come only if no device failed
abbrev pub IsCleanOfDevices : ℕ → Type 0
IsCleanOfDevices status = (status ≡ 0) ⊎ ((status ≡ 1) ⊎ ((status ≡ 3) ⊎ (status ≡ 5)))

-- the statuses that come only if no stream failed
abbrev pub IsCleanOfStreams : ℕ → Type 0
IsCleanOfStreams status = (status ≡ 0) ⊎ ((status ≡ 1) ⊎ (status ≡ 3))

-- the statuses of a session over devices that did not fail, with memory enough
abbrev pub IsOfSession : ℕ → Type 0
IsOfSession status = (status ≡ 0) ⊎ ((status ≡ 1) ⊎ (status ≡ 5))
