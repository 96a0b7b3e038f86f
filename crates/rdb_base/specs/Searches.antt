-- The place of a key in a run.
use denote.Ref.{Bor}
use Rattle.std.specs.Prelude.{◌≡◌, ℕ, List, length, slice_get, Option, Some, None, Bool, false, if◌then◌else◌}
use Rattle.std.specs.Ordering.{is_lt, is_eq}
use Rattle.rdb_base.specs.Order.{key_cmp}
use Rattle.rdb_base.specs.Halvings.{IsTurn}
use Rattle.rdb_base.specs.declared.change.Change.{Change}
use Rattle.rdb_base.specs.declared.pair.Pair.{Pair}

-- whether there is a pair and its key is below this one
abbrev pub is_pair_below : List ℕ → Option Pair → Bool
is_pair_below key None = false
is_pair_below key (Some pair) = is_lt (key_cmp pair.key key)

-- whether the run's key at a place is below this one
abbrev pub is_below_at : List Pair → List ℕ → ℕ → Bool
is_below_at run key place = is_pair_below key (slice_get run place)

-- the first place whose key is not below this one, or the length
abbrev pub IsPlaceOf : List Pair → List ℕ → ℕ → Type 0
IsPlaceOf run key place = IsTurn (is_below_at run key) (length run) place

-- the change of a pair, where there is one and it has this key
abbrev pub change_there : Option Pair → List ℕ → Option Change
change_there None key = None
change_there (Some pair) key = if is_eq (key_cmp pair.key key) then Some pair.change else None

-- a lent change is the one that is there, and None says that there is none
abbrev pub LendsChange : Option (Bor Change) → Option Change → Type 0
LendsChange (Some lent) (Some change) = lent.now ≡ change
LendsChange None None = Unit {0}
LendsChange (Some lent) None = ⊥
LendsChange None (Some change) = ⊥
