-- A merge of new pairs with old runs, walked in the order of the runs' index: what is left of it, and where each row comes from.
use Rattle.std.specs.Prelude.{◌≡◌, ℕ, ◌+◌, ◌-◌, ◌<◌, ◌≤◌, ◌^◌, min, length, Bool, true, false, not, ◌||◌, filter, drop, List, [], ◌∷◌, slice_get, Option, Some, None}
use Rattle.std.specs.List.{AllByRecursion}
use Rattle.std.specs.declared.cmp.Ordering.{Ordering}
use Rattle.std.specs.declared.cmp.Ordering.TheVariants.{Greater}
use Rattle.rdb_base.specs.Order.{key_cmp}
use Rattle.rdb_base.specs.Runs.{IsRun, pair_size}
use Rattle.rdb_base.specs.Levels.{over, live}
use Rattle.rdb_base.specs.declared.row.Row.{Row}
use Rattle.rdb_base.specs.declared.change.Change.TheVariants.{Put}
use Rattle.rdb_base.specs.declared.pair.Pair.{Pair}
use Rattle.remix_view.specs.declared.spot.Spot.{Spot}
use Rattle.remix_view.specs.declared.walk.Walk.{Walk}
use Rattle.remix_view.specs.Views.{ViewState}
use Rattle.remix_view.specs.Spots.{spots_from}
use Rattle.remix_seek.specs.Versions.{run_at, is_deletion}
use Rattle.partition_merge.specs.declared.merge_place.MergePlace.{MergePlace}
use Rattle.partition_merge.specs.declared.origin.Origin.{Origin}
use Rattle.partition_merge.specs.declared.origin.Origin.TheVariants.{Old, New}

-- ---- the old side

-- whether a version is the newest of its key and no deletion
abbrev pub stays : Spot → Bool
stays spot = not (spot.old || spot.del)

-- the spots from a walk's place on that stay
abbrev pub kept_from : ViewState → Walk → List Spot
kept_from view walk = filter stays (spots_from view walk.segment walk.place)

-- these pairs after one more, where it is there
abbrev pub after_pair : Option Pair → List Pair → List Pair
after_pair None pairs = pairs
after_pair (Some pair) pairs = pair ∷ pairs

-- the pair that a spot names
abbrev pub pair_of_spot : List (List Pair) → Spot → Option Pair
pair_of_spot runs spot = slice_get (run_at runs spot.run) spot.place

-- the pairs that spots name
abbrev pub pairs_at : List (List Pair) → List Spot → List Pair
pairs_at runs [] = []
pairs_at runs (spot ∷ spots) = after_pair (pair_of_spot runs spot) (pairs_at runs spots)

-- a pair is there, and it is no deletion
abbrev pub IsPut : Option Pair → Type 0
IsPut None = ⊥
IsPut (Some pair) = is_deletion pair.change ≡ false

abbrev pub IsPutThere : List (List Pair) → Spot → Type 0
IsPutThere runs spot = IsPut (pair_of_spot runs spot)

-- ---- both sides

-- what is left to merge: old spots that name puts with rising keys, and new pairs with rising keys
pub record IsMerge (runs : List (List Pair)) (spots : List Spot) (newer : List Pair) : Type 0 where
  pub puts : AllByRecursion (IsPutThere runs) spots
  pub old_rises : IsRun (pairs_at runs spots)
  pub new_rises : IsRun newer

abbrev pub IsMergeAt : List (List Pair) → ViewState → List Pair → MergePlace → Type 0
IsMergeAt runs view newer place = IsMerge runs (kept_from view place.walk) (drop place.at newer)

-- the pairs that are left of a merge, deletions of the new side among them
abbrev pub pairs_left : List (List Pair) → ViewState → List Pair → MergePlace → List Pair
pairs_left runs view newer place = over (drop place.at newer) (pairs_at runs (kept_from view place.walk))

-- the rows that are left of a merge
abbrev pub rows_left : List (List Pair) → ViewState → List Pair → MergePlace → List Row
rows_left runs view newer place = live (pairs_left runs view newer place)

-- ---- one step

-- the pair of an origin
abbrev pub pair_from : List (List Pair) → List Pair → Origin → Option Pair
pair_from runs newer (Old run place) = slice_get (run_at runs run) place
pair_from runs newer (New place) = slice_get newer place

-- an origin on the old side is no deletion
abbrev pub IsPutIfOld : List (List Pair) → Origin → Type 0
IsPutIfOld runs (Old run place) = IsPut (slice_get (run_at runs run) place)
IsPutIfOld runs (New place) = Unit {0}

-- the origin of the first pair that is left, and what is left after it; none where nothing is left
abbrev pub IsNextPair : List (List Pair) → List Pair → List Pair → Option Origin → List Pair → Type 0
IsNextPair runs newer before None later = before ≡ []
IsNextPair runs newer before (Some origin) later = (pair : Pair) × (pair_from runs newer origin ≡ Some pair) × (before ≡ (pair ∷ later)) × IsPutIfOld runs origin

-- a place of the new side is one of its pairs
abbrev pub IsWithin : List Pair → Origin → Type 0
IsWithin newer (Old run place) = Unit {0}
IsWithin newer (New place) = place < length newer

-- whether a pair is there and no deletion
abbrev pub is_put : Option Pair → Bool
is_put None = false
is_put (Some pair) = not (is_deletion pair.change)

-- whether an origin is one of a row
abbrev pub is_row_in : List Pair → Origin → Bool
is_row_in newer (Old run place) = true
is_row_in newer (New place) = is_put (slice_get newer place)

-- where nothing old is left, the next new pair is taken
abbrev pub TakesNew : List Pair → MergePlace → Option Origin → MergePlace → Type 0
TakesNew newer before None later = (length newer ≤ before.at) × (later ≡ before)
TakesNew newer before (Some (Old run place)) later = ⊥
TakesNew newer before (Some (New place)) later = (place ≡ before.at) × (before.at < length newer) × (later ≡ record { walk = before.walk; at = before.at + 1 })

-- a row as a pair
abbrev pub row_pair : Row → Pair
row_pair row = record { key = row.key; change = Put row.value }

-- the origin of the first row that is left, and the rows that are left after it; none where no row is left
abbrev pub IsNextRow : List (List Pair) → List Pair → List Row → Option Origin → List Row → Type 0
IsNextRow runs newer before None later = before ≡ []
IsNextRow runs newer before (Some origin) later = (row : Row) × (pair_from runs newer origin ≡ Some (row_pair row)) × (before ≡ (row ∷ later))

-- ---- heads and reads

-- the order of the first new pair and the next old one; a new pair that is not there is above all
abbrev pub head_order : Option Pair → Option Pair → Ordering
head_order None old = Greater
head_order (Some pair) None = Greater
head_order (Some pair) (Some other) = key_cmp pair.key other.key

-- there is a pair
abbrev pub IsThere : Option Pair → Type 0
IsThere None = ⊥
IsThere (Some pair) = Unit {0}

-- the size of a pair, 0 where there is none
abbrev pub size_from : Option Pair → ℕ
size_from None = 0
size_from (Some pair) = pair_size pair

-- a number that stands still at the greatest one of 64 bits
abbrev pub within_u64 : ℕ → ℕ
within_u64 n = min n (2 ^ 64 - 1)
