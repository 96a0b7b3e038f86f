-- An operation is one call of a caller together with its answer, without regard to how either is written. The session
-- relation says which operations a session may have over a history.
use Rattle.std.specs.Prelude.{◌≡◌, ℕ, ◌≤◌, List, [], ◌∷◌, Option, Some, None}
use Rattle.rdb_base.specs.declared.change.Change.{Change}
use Rattle.rdb_base.specs.declared.change.Change.TheVariants as changes
use Rattle.rdb_base.specs.declared.limits.TheConstants.{NUMBER_MAX}
use Rattle.rdb_base.specs.Histories.{History, end}
use Rattle.history_core.specs.declared.limits.TheConstants.{DEVICE_MAX}
use Rattle.history_core.specs.declared.request.Request.{Request}
use Rattle.history_core.specs.declared.request.Request.TheVariants.{Put, Delete, Get, Sync, Quit}
use Rattle.history_core.specs.declared.reply.Reply.{Reply}
use Rattle.history_core.specs.declared.reply.Reply.TheVariants.{Done, Value, Absent, Synced, Bye, DeviceFault, OutOfMemory, HistorySpent, NumbersSpent}
use Rattle.history_core.specs.Sessions.{SessionState, Enters, Looks, IsSpent, looked_at}

pub data Operation : Type 0 where
  -- a put or a delete: the key was changed so, by the entry with this number
  updated : List ℕ → Change → ℕ → Operation
  -- a get: at this front the key had this value, or none
  looked : List ℕ → ℕ → Option (List ℕ) → Operation
  -- a sync: each entry below this number outlasts a crash
  synced : ℕ → Operation
  -- an update was refused, since the history has no number left: its next would be this one
  history_spent : ℕ → Operation
  -- an update was refused, since a compaction has no number left: its next would be this one
  numbers_spent : ℕ → Operation
  -- the call was refused, since this device failed
  device_failed : ℕ → Operation
  -- the call was refused, since memory ran out
  no_memory : Operation
  -- the caller left
  left : Operation

-- the operation of a request with this reply; None where such a request never gets such a reply
abbrev pub operation_of : Request → Reply → Option Operation
operation_of (Put row) (Done number) = Some (updated row.key (changes.Put row.value) number)
operation_of (Delete key) (Done number) = Some (updated key changes.Del number)
operation_of (Get key) (Value front value) = Some (looked key front (Some value))
operation_of (Get key) (Absent front) = Some (looked key front None)
operation_of Sync (Synced number) = Some (synced number)
operation_of Quit Bye = Some left
operation_of (Put row) (HistorySpent number) = Some (history_spent number)
operation_of (Delete key) (HistorySpent number) = Some (history_spent number)
operation_of (Put row) (NumbersSpent number) = Some (numbers_spent number)
operation_of (Delete key) (NumbersSpent number) = Some (numbers_spent number)
operation_of (Put row) (DeviceFault device) = Some (device_failed device)
operation_of (Delete key) (DeviceFault device) = Some (device_failed device)
operation_of Sync (DeviceFault device) = Some (device_failed device)
operation_of (Put row) OutOfMemory = Some no_memory
operation_of (Delete key) OutOfMemory = Some no_memory
operation_of (Get key) OutOfMemory = Some no_memory
operation_of Sync OutOfMemory = Some no_memory
operation_of request reply = None

-- the operations of these requests with these replies, one after the other
abbrev pub AreOperations : List Request → List Reply → List Operation → Type 0
AreOperations [] [] [] = Unit {0}
AreOperations (request ∷ requests) (reply ∷ replies) (operation ∷ operations) =
    (operation_of request reply ≡ Some operation) × AreOperations requests replies operations
AreOperations requests replies operations = ⊥

-- over this history a session in this state may have the operation, and then stands in the next state
abbrev pub Operates : History → SessionState → Operation → SessionState → Type 0
Operates history state (updated key change number) next = Enters history state key change number next
Operates history state (looked key front found) next = Looks history state key front found next
Operates history state (synced number) next =
    (state.least ≤ number) × (number ≤ end history) × (next ≡ looked_at state number)
-- what is refused changes nothing
Operates history state (history_spent number) next = IsSpent history number × (next ≡ state)
Operates history state (numbers_spent number) next = (NUMBER_MAX ≤ number) × (next ≡ state)
Operates history state (device_failed device) next = (device ≤ DEVICE_MAX) × (next ≡ state)
Operates history state no_memory next = next ≡ state
Operates history state left next = next ≡ state

-- the same of operations, one after the other
abbrev pub OperatesAll : History → SessionState → List Operation → SessionState → Type 0
OperatesAll history state [] next = next ≡ state
OperatesAll history state (operation ∷ operations) next =
    (between : SessionState) × Operates history state operation between × OperatesAll history between operations next
