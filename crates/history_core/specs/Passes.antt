-- A pass: what one caller knows of a history from call to call, and how each operation moves it.
use Rattle.std.specs.Prelude.{◌≡◌, ℕ, ◌+◌, ◌≤◌, ◌++◌, List, [], ◌∷◌, length}
use Rattle.rdb_base.specs.declared.row.Row.{Row}
use Rattle.rdb_base.specs.declared.entry.Entry.{Entry}
use Rattle.rdb_base.specs.declared.change.Change.{Change}
use Rattle.rdb_base.specs.declared.limits.TheConstants.{NUMBER_MAX}
use Rattle.rdb_base.specs.Maps.{value_at, applied_all}
use Rattle.rdb_base.specs.Histories.{History, IsEntry, calls_of, after, end}
use Rattle.fault_count.specs.Counts.{Rose}
use Rattle.history_core.specs.declared.limits.TheConstants.{DEVICE_MAX}
use Rattle.history_core.specs.Sessions.{IsSpent}
use Rattle.history_core.specs.Operations.{Operation, updated, looked, synced, history_spent, numbers_spent, device_failed, no_memory, left}

pub record PassState : Type 0 where
  -- whose pass it is, and the ordinal of its next update
  pub caller : ℕ
  pub ordinal : ℕ
  -- the history as far as the pass has seen it
  pub seen : History
  -- each entry below this number is synced, as far as the pass knows
  pub safe : ℕ
  -- the next number of a compaction, as far as the pass knows
  pub next : ℕ
  -- how many failures of devices it was told
  pub told : ℕ

-- the number after the last entry that the pass has seen
abbrev pub front_of : PassState → ℕ
front_of pass = end pass.seen

-- the map after all entries that the pass has seen
abbrev pub map_of : PassState → List Row
map_of pass = applied_all pass.seen.base pass.seen.entries

-- the entry that an update of this caller with this ordinal makes
abbrev pub entry_of : ℕ → ℕ → List ℕ → Change → Entry
entry_of caller ordinal key change = record { caller = caller; ordinal = ordinal; key = key; change = change }

-- the entries that an operation of this caller adds, where this ordinal is its next
abbrev pub added_by : ℕ → ℕ → Operation → List Entry
added_by caller ordinal (updated key change number) = entry_of caller ordinal key change ∷ []
added_by caller ordinal operation = []

-- the entries that these operations add: each update's, once and in order
abbrev pub added : ℕ → ℕ → List Operation → List Entry
added caller ordinal [] = []
added caller ordinal (operation ∷ operations) =
    added_by caller ordinal operation
    ++ added caller (ordinal + length (added_by caller ordinal operation)) operations

-- The pass has seen more: after what it had seen come these entries. Those in `own` are its caller's, in order, and all
-- others are not. What else it knew stands.
pub record Grows (old new : PassState) (own : List Entry) : Type 0 where
  pub caller : new.caller ≡ old.caller
  pub ordinal : new.ordinal ≡ old.ordinal + length own
  pub base : new.seen.base ≡ old.seen.base
  pub first : new.seen.first ≡ old.seen.first
  pub more : List Entry
  pub entries : new.seen.entries ≡ old.seen.entries ++ more
  pub calls : calls_of more old.caller ≡ own
  pub safe : old.safe ≤ new.safe
  pub next : old.next ≤ new.next
  -- no entry comes after the last number
  pub within : front_of old ≤ NUMBER_MAX → front_of new ≤ NUMBER_MAX

-- a device's failure makes the number of failures told rise, and nothing else moves it
abbrev pub Tells : Operation → ℕ → ℕ → Type 0
Tells (device_failed device) before now = Rose before now
Tells operation before now = now ≡ before

-- the operation fits what the pass had seen before it, and what it has seen then
abbrev pub Fits : PassState → Operation → PassState → Type 0
-- the update's entry comes after all that the pass had seen
Fits old (updated key change number) new =
    (front_of old ≤ number) × IsEntry new.seen number (entry_of old.caller old.ordinal key change)
-- the front is not below what the pass had seen, and the pass has seen it then
Fits old (looked key front found) new =
    (front_of old ≤ front) × (front ≤ front_of new) × (value_at (after new.seen front) key ≡ found)
Fits old (synced number) new = (front_of old ≤ number) × (number ≤ front_of new) × (number ≤ new.safe)
Fits old (history_spent number) new = IsSpent new.seen number
Fits old (numbers_spent number) new = (NUMBER_MAX ≤ number) × (number ≤ new.next)
Fits old (device_failed device) new = device ≤ DEVICE_MAX
Fits old no_memory new = Unit {0}
Fits old left new = Unit {0}

-- the operation moves a pass from one state to the next
pub record PassMoves (old : PassState) (operation : Operation) (new : PassState) : Type 0 where
  pub grows : Grows old new (added_by old.caller old.ordinal operation)
  pub fits : Fits old operation new
  pub told : Tells operation old.told new.told

-- the same of operations, one after the other: between two calls a pass stays
abbrev pub PassMovesAll : PassState → List Operation → PassState → Type 0
PassMovesAll old [] new = new ≡ old
PassMovesAll old (operation ∷ operations) new =
    (between : PassState) × PassMoves old operation between × PassMovesAll between operations new
