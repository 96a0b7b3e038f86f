-- The bounds of partitions, and the partition of a key.
use Rattle.std.specs.Prelude.{◌≡◌, ℕ, ◌+◌, List, Bool, false, not, slice_get, Option, Some, None}
use Rattle.std.specs.Ordering.{is_gt}
use denote.Ref.{Bor}
use Rattle.rdb_base.specs.Order.{key_cmp}
use Rattle.rdb_base.specs.Ranges.{NotBelow, IsBelow}
use Rattle.partition_set.specs.Partitions.{PartState}

-- the low bound of the partition at a place, where there is one
abbrev pub low_of : {T : Type 0} → Option (PartState T) → Option (List ℕ)
low_of None = None
low_of (Some part) = Some part.low

abbrev pub low_at : {T : Type 0} → List (PartState T) → ℕ → Option (List ℕ)
low_at parts index = low_of (slice_get parts index)

-- the partition of a key: its low bound is not above the key, and the next one's is
pub record IsPartOf {T : Type 0} (parts : List (PartState T)) (key : List ℕ) (index : ℕ) : Type 0 where
  pub part : PartState T
  pub at : slice_get parts index ≡ Some part
  pub above_low : NotBelow key part.low
  pub below_next : IsBelow (low_at parts (index + 1)) key

-- whether a partition's low bound is not above the key
abbrev pub bound_passes : List ℕ → Option (List ℕ) → Bool
bound_passes key None = false
bound_passes key (Some low) = not (is_gt (key_cmp low key))

abbrev pub passes_at : {T : Type 0} → List (PartState T) → List ℕ → ℕ → Bool
passes_at parts key index = bound_passes key (low_at parts index)

-- a bound, lent, where there is one
abbrev pub LendsBound : Option (List ℕ) → Option (Bor (List ℕ)) → Type 0
LendsBound None None = Unit {0}
LendsBound (Some low) (Some lent) = lent.now ≡ low
LendsBound None (Some lent) = ⊥
LendsBound (Some low) None = ⊥
