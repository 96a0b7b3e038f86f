-- What the operations of a pass come to.
use Rattle.std.specs.Prelude.{◌≡◌, ℕ, ◌+◌, ◌≤◌, ◌++◌, List, [], ◌∷◌}
use Rattle.std.specs.List.{AllByRecursion}
use Rattle.rdb_base.specs.declared.row.Row.{Row}
use Rattle.rdb_base.specs.declared.entry.Entry.{Entry}
use Rattle.rdb_base.specs.Maps.{value_at, changed}
use Rattle.fault_count.specs.Counts.{sum_of}
use Rattle.history_core.specs.Sessions.{SessionState}
use Rattle.history_core.specs.Operations.{Operation, updated, looked, synced, device_failed, OperatesAll}
use Rattle.history_core.specs.Passes.{PassState, Grows, PassMovesAll, front_of, map_of, added}

-- a session of this pass that may name no number below this one
abbrev pub session_of : PassState → ℕ → SessionState
session_of pass least = record { caller = pass.caller; ordinal = pass.ordinal; least = least }

-- These are the operations of one session of the pass over what it has seen at last. The session began with all that
-- the pass had seen then, and does not end past what it has seen.
pub record IsSessionOf (old new : PassState) (operations : List Operation) : Type 0 where
  pub last : SessionState
  pub session : OperatesAll new.seen (session_of old (front_of old)) operations last
  pub caller : last.caller ≡ new.caller
  pub ordinal : last.ordinal ≡ new.ordinal
  pub least : last.least ≤ front_of new

-- what a pass does is one session over what it has seen at last
abbrev pub PassGivesSession : Type 0
PassGivesSession =
    (old new : PassState) (operations : List Operation) → PassMovesAll old operations new →
    IsSessionOf old new operations

-- of its caller's entries just those of its updates were added, once each and in order
abbrev pub PassAddsItsUpdates : Type 0
PassAddsItsUpdates =
    (old new : PassState) (operations : List Operation) → PassMovesAll old operations new →
    Grows old new (added old.caller old.ordinal operations)

-- no sync named a number above this one
abbrev pub SyncedWithin : ℕ → List Operation → Type 0
SyncedWithin most [] = Unit {0}
SyncedWithin most (synced number ∷ operations) = (number ≤ most) × SyncedWithin most operations
SyncedWithin most (operation ∷ operations) = SyncedWithin most operations

-- no sync named a number above that below which the pass then knows each entry to be synced
abbrev pub PassKnowsSynced : Type 0
PassKnowsSynced =
    (old new : PassState) (operations : List Operation) → PassMovesAll old operations new →
    SyncedWithin new.safe operations

-- how many of these operations were refused because a device failed
abbrev pub failures_in : List Operation → ℕ
failures_in [] = 0
failures_in (device_failed device ∷ operations) = 1 + failures_in operations
failures_in (operation ∷ operations) = failures_in operations

-- the number of failures told rose by each of them at least, up to its last value; where there was none, it stands
abbrev pub PassCountsFailures : Type 0
PassCountsFailures =
    (old new : PassState) (operations : List Operation) → PassMovesAll old operations new →
    (sum_of old.told (failures_in operations) ≤ new.told) × (failures_in operations ≡ 0 → new.told ≡ old.told)

-- The operations are those of one map that nobody else changes: it begins with these rows, its next update has this
-- number, each look and each sync names the next number, and a look finds what the map has.
abbrev pub ArePlain : List Row → ℕ → List Operation → Type 0
ArePlain rows next [] = Unit {0}
ArePlain rows next (updated key change number ∷ operations) =
    (number ≡ next) × ArePlain (changed rows key change) (next + 1) operations
ArePlain rows next (looked key front found ∷ operations) =
    (front ≡ next) × (value_at rows key ≡ found) × ArePlain rows next operations
ArePlain rows next (synced number ∷ operations) = (number ≡ next) × ArePlain rows next operations
ArePlain rows next (operation ∷ operations) = ArePlain rows next operations

-- where each entry that came to be seen is the pass's own, its operations are those of a map that nobody else changes
abbrev pub PassAloneIsPlain : Type 0
PassAloneIsPlain =
    (old new : PassState) (operations : List Operation) (more : List Entry) → PassMovesAll old operations new →
    new.seen.entries ≡ old.seen.entries ++ more → AllByRecursion (λ entry. entry.caller ≡ old.caller) more →
    ArePlain (map_of old) (front_of old) operations
