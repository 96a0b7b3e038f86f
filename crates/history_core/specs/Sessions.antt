-- The session relation: which replies requests may get over a history, and where the session then stands.
use Rattle.std.specs.Prelude.{◌≡◌, ℕ, ◌+◌, ◌≤◌, List, [], ◌∷◌, length, Option, Some, None}
use Rattle.std.specs.List.{AllByRecursion}
use Rattle.rdb_base.specs.declared.row.Row.{Row}
use Rattle.rdb_base.specs.declared.entry.Entry.{Entry}
use Rattle.rdb_base.specs.declared.change.Change.{Change}
use Rattle.rdb_base.specs.declared.change.Change.TheVariants as changes
use Rattle.rdb_base.specs.declared.limits.TheConstants.{NUMBER_MAX}
use Rattle.rdb_base.specs.Maps.{value_at}
use Rattle.rdb_base.specs.Histories.{History, IsEntry, AreNumbered, after, end}
use Rattle.history_core.specs.declared.limits.TheConstants.{DEVICE_MAX}
use Rattle.history_core.specs.declared.request.Request.{Request}
use Rattle.history_core.specs.declared.request.Request.TheVariants.{Put, Delete, Get, Sync, Quit}
use Rattle.history_core.specs.declared.reply.Reply.{Reply}
use Rattle.history_core.specs.declared.reply.Reply.TheVariants.{Done, Value, Absent, Synced, Bye, DeviceFault, OutOfMemory, HistorySpent, NumbersSpent}

-- whose session it is, the ordinal of its next update, and the least number that it may still name
pub record SessionState : Type 0 where
  pub caller : ℕ
  pub ordinal : ℕ
  pub least : ℕ

-- the entry that an update makes in this state
abbrev pub entry_by : SessionState → List ℕ → Change → Entry
entry_by state key change = record { caller = state.caller; ordinal = state.ordinal; key = key; change = change }

-- the state after an update with this number
abbrev pub updated_at : SessionState → ℕ → SessionState
updated_at state number = record state { ordinal = state.ordinal + 1; least = number + 1 }

-- the state after a look at this front, or a sync up to this number
abbrev pub looked_at : SessionState → ℕ → SessionState
looked_at state front = record state { least = front }

-- an update is entered in the history under its number
abbrev pub Enters : History → SessionState → List ℕ → Change → ℕ → SessionState → Type 0
Enters history state key change number next =
    (state.least ≤ number) × IsEntry history number (entry_by state key change) × (next ≡ updated_at state number)

-- a look at a key finds what the map at its front has
abbrev pub Looks : History → SessionState → List ℕ → ℕ → Option (List ℕ) → SessionState → Type 0
Looks history state key front found next =
    (state.least ≤ front)
    × (front ≤ end history)
    × (value_at (after history front) key ≡ found)
    × (next ≡ looked_at state front)

-- the history has no number left: it ends at the greatest
abbrev pub IsSpent : History → ℕ → Type 0
IsSpent history number = (number ≡ NUMBER_MAX) × (end history ≡ number)

-- over this history a session in this state may answer the request so, and then stands in the next state
abbrev pub Replays : History → SessionState → Request → Reply → SessionState → Type 0
Replays history state (Put row) (Done number) next = Enters history state row.key (changes.Put row.value) number next
Replays history state (Delete key) (Done number) next = Enters history state key changes.Del number next
Replays history state (Get key) (Value front value) next = Looks history state key front (Some value) next
Replays history state (Get key) (Absent front) next = Looks history state key front None next
Replays history state Sync (Synced number) next =
    (state.least ≤ number) × (number ≤ end history) × (next ≡ looked_at state number)
Replays history state Quit Bye next = next ≡ state
-- an update for which no number is left changes nothing
Replays history state (Put row) (HistorySpent number) next = IsSpent history number × (next ≡ state)
Replays history state (Delete key) (HistorySpent number) next = IsSpent history number × (next ≡ state)
-- nor does one that needs a compaction for which no number is left
Replays history state (Put row) (NumbersSpent number) next = (NUMBER_MAX ≤ number) × (next ≡ state)
Replays history state (Delete key) (NumbersSpent number) next = (NUMBER_MAX ≤ number) × (next ≡ state)
-- a device that failed changes nothing
Replays history state (Put row) (DeviceFault device) next = (device ≤ DEVICE_MAX) × (next ≡ state)
Replays history state (Delete key) (DeviceFault device) next = (device ≤ DEVICE_MAX) × (next ≡ state)
Replays history state Sync (DeviceFault device) next = (device ≤ DEVICE_MAX) × (next ≡ state)
-- a request that is out of memory changes nothing
Replays history state (Put row) OutOfMemory next = next ≡ state
Replays history state (Delete key) OutOfMemory next = next ≡ state
Replays history state (Get key) OutOfMemory next = next ≡ state
Replays history state Sync OutOfMemory next = next ≡ state
-- no other reply is given
Replays history state request reply next = ⊥

-- the same of requests and their replies, one after the other
abbrev pub ReplaysAll : History → SessionState → List Request → List Reply → SessionState → Type 0
ReplaysAll history state [] [] next = next ≡ state
ReplaysAll history state (request ∷ requests) (reply ∷ replies) next =
    (between : SessionState) × Replays history state request reply between × ReplaysAll history between requests replies next
ReplaysAll history state [] (reply ∷ replies) next = ⊥
ReplaysAll history state (request ∷ requests) [] next = ⊥

-- the state in which the only caller's session begins
abbrev pub begun : ℕ → SessionState
begun number = record { caller = 0; ordinal = 0; least = number }

-- These are the replies of a session to these requests, over a history that began with this map and number and has
-- the session's updates, once each and in order, and nobody else's.
pub record IsSession (rows : List Row) (number : ℕ) (requests : List Request) (replies : List Reply) : Type 0 where
  pub entries : List Entry
  pub last : SessionState
  pub callers : AllByRecursion (λ entry. entry.caller ≡ 0) entries
  pub numbered : AreNumbered 0 entries
  pub all : last.ordinal ≡ length entries
  pub replays :
      ReplaysAll (record { base = rows; first = number; entries = entries }) (begun number) requests replies last
