-- A look at the place where a search has ended, what it costs, and when it needs memory.
use Rattle.std.specs.Prelude.{ℕ, ◌+◌, ◌≤◌, ◌^◌, max, List, length, slice_get, Option, Some, None, if◌then◌else◌}
use Rattle.std.specs.List.{AllByRecursion}
use Rattle.std.specs.Ordering.{is_eq}
use Rattle.rdb_base.specs.Order.{key_cmp}
use Rattle.rdb_base.specs.declared.change.Change.{Change}
use Rattle.rdb_base.specs.declared.change.Change.TheVariants.{Put, Del}
use Rattle.rdb_base.specs.declared.pair.Pair.{Pair}
use Rattle.remix_view.specs.Views.{ViewState}
use Rattle.remix_seek.specs.Versions.{run_at}
use Rattle.partition_set.specs.Partitions.{PartState}

-- the change of a pair, where there is one
abbrev pub change_of_pair : Option Pair → Option Change
change_of_pair None = None
change_of_pair (Some pair) = Some pair.change

-- the change of a pair, where it has the key
abbrev pub pair_change : Option Pair → List ℕ → Option Change
pair_change None key = None
pair_change (Some pair) key = if is_eq (key_cmp pair.key key) then Some pair.change else None

-- the change at the place of a run, where it has the key
abbrev pub change_in : List (List Pair) → ℕ → ℕ → List ℕ → Option Change
change_in runs run place key = pair_change (slice_get (run_at runs run) place) key

-- there is a value to copy: no change and a deletion need no memory
abbrev pub HasValue : Option Change → Type 0
HasValue None = ⊥
HasValue (Some Del) = ⊥
HasValue (Some (Put value)) = Unit {0}

-- a look-up's steps in one index: for each n whose power of two covers the segments at most n + 7
abbrev pub LookupCost : ViewState → ℕ → ℕ → Type 0
LookupCost view before now = (n : ℕ) → max (length view.segments) 1 ≤ 2 ^ n → now ≤ before + n + 7

-- a get's steps: for each n whose power of two covers the segments of every partition at most n + 7
abbrev pub GetCost : {T : Type 0} → List (PartState T) → ℕ → ℕ → Type 0
GetCost parts before now = (n : ℕ) → AllByRecursion (λ part. max (length part.view.segments) 1 ≤ 2 ^ n) parts → now ≤ before + n + 7
