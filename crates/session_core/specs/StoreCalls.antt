-- What a store's calls answer: each answer is one operation of the caller's pass.
use Rattle.std.specs.Prelude.{◌≡◌, ℕ, List, Result, Ok, Err}
use Rattle.rdb_base.specs.declared.change.Change.{Change}
use Rattle.disk_model.specs.Books.{BookName}
use Rattle.history_core.specs.Operations.{updated, looked, synced, history_spent, numbers_spent, device_failed, no_memory}
use Rattle.history_core.specs.Passes.{PassState, PassMoves}
use Rattle.session_core.specs.declared.found.Found.{Found}
use Rattle.session_core.specs.declared.update_error.UpdateError.{UpdateError}
use Rattle.session_core.specs.declared.update_error.UpdateError.TheVariants.{HistorySpent, NumbersSpent, DeviceFault, Memory}
use Rattle.session_core.specs.declared.sync_error.SyncError.{SyncError}
use Rattle.session_core.specs.declared.sync_error.SyncError.TheVariants as syncs

-- a put or a delete of a key moves the pass as its answer says
abbrev pub UpdateMoves : PassState → List ℕ → Change → Result ℕ UpdateError → PassState → Type 0
UpdateMoves old key change (Ok number) new = PassMoves old (updated key change number) new
UpdateMoves old key change (Err (HistorySpent number)) new = PassMoves old (history_spent number) new
UpdateMoves old key change (Err (NumbersSpent next)) new = PassMoves old (numbers_spent next) new
UpdateMoves old key change (Err (DeviceFault unit)) new = PassMoves old (device_failed unit.device) new
UpdateMoves old key change (Err Memory) new = PassMoves old no_memory new

-- a get moves the pass as its answer says; it can only be out of memory
abbrev pub GetMoves : {E : Type 0} → PassState → List ℕ → Result Found E → PassState → Type 0
GetMoves old key (Ok found) new = PassMoves old (looked key found.front found.value) new
GetMoves old key (Err error) new = PassMoves old no_memory new

-- a sync moves the pass as its answer says
abbrev pub SyncMoves : PassState → Result ℕ SyncError → PassState → Type 0
SyncMoves old (Ok number) new = PassMoves old (synced number) new
SyncMoves old (Err (syncs.DeviceFault unit)) new = PassMoves old (device_failed unit.device) new
SyncMoves old (Err syncs.Memory) new = PassMoves old no_memory new

-- the failure that an update tells is a unit of its device's own book
abbrev pub HasUpdateUnit : (ℕ → BookName) → Result ℕ UpdateError → Type 0
HasUpdateUnit books (Err (DeviceFault unit)) = unit ≡ books unit.device
HasUpdateUnit books result = Unit {0}

-- the same of a sync
abbrev pub HasSyncUnit : (ℕ → BookName) → Result ℕ SyncError → Type 0
HasSyncUnit books (Err (syncs.DeviceFault unit)) = unit ≡ books unit.device
HasSyncUnit books result = Unit {0}
