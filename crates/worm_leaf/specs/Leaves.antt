-- A leaf as contracts see it: a range of keys and the pairs in it.
use Rattle.std.specs.Prelude.{◌≡◌, ◌≤◌, ℕ, Bool, true, false, List, [], length, Option, Some, None, slice_get, if◌then◌else◌}
use Rattle.std.specs.List.{AllByRecursion}
use Rattle.std.specs.Ordering.{is_eq}
use Rattle.rdb_base.specs.Order.{key_cmp}
use Rattle.rdb_base.specs.Ranges.{in_range}
use Rattle.rdb_base.specs.Runs.{IsRun}
use Rattle.rdb_base.specs.declared.pair.Pair.{Pair}
use Rattle.worm_leaf.specs.declared.limits.TheConstants.{LEAF_PAIRS_MAX}

-- the low bound, the high bound where there is one, and the pairs
pub record LeafState : Type 0 where
  pub low : List ℕ
  pub high : Option (List ℕ)
  pub pairs : List Pair

-- a leaf over all keys without a pair
abbrev pub unused : LeafState
unused = record { low = []; high = None; pairs = [] }

-- whether a leaf covers a key: the key is not below the low bound, and below the high one
abbrev pub covers : LeafState → List ℕ → Bool
covers leaf key = in_range leaf.low leaf.high key

-- the leaf covers the keys of these pairs
abbrev pub AreCovered : LeafState → List Pair → Type 0
AreCovered leaf pairs = AllByRecursion (λ pair. covers leaf pair.key ≡ true) pairs

-- the pairs rise, the leaf covers them, and they are not too many
pub record IsLeaf (leaf : LeafState) : Type 0 where
  pub rises : IsRun leaf.pairs
  pub covered : AreCovered leaf leaf.pairs
  pub most : length leaf.pairs ≤ LEAF_PAIRS_MAX

-- a bound that may be there
abbrev pub bound : Bool → List ℕ → Option (List ℕ)
bound there bytes = if there then Some bytes else None

-- whether there is a pair and it has this key
abbrev pub is_pair_of : List ℕ → Option Pair → Bool
is_pair_of key None = false
is_pair_of key (Some pair) = is_eq (key_cmp pair.key key)

-- whether the pair at a place has this key
abbrev pub is_key_at : List Pair → List ℕ → ℕ → Bool
is_key_at pairs key place = is_pair_of key (slice_get pairs place)
