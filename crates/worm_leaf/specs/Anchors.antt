-- The anchor that parts two keys.
use Rattle.std.specs.Prelude.{◌≡◌, ℕ, ◌<◌, ◌-◌, List, length, take, slice_get, Some}
use Rattle.rdb_base.specs.declared.pair.Pair.{Pair}
use Rattle.std.specs.declared.cmp.Ordering.TheVariants.{Less}
use Rattle.rdb_base.specs.Order.{key_cmp}

-- the shortest prefix of `first` that is above `last`
pub record IsAnchor (last first anchor : List ℕ) : Type 0 where
  pub prefix : anchor ≡ take (length anchor) first
  pub above : key_cmp last anchor ≡ Less
  pub shortest : (n : ℕ) → n < length anchor → key_cmp last (take n first) ≡ Less → ⊥

-- the anchor of the pairs from a place on: it parts the key there from the key before it
abbrev pub PartsAt : List Pair → ℕ → List ℕ → Type 0
PartsAt pairs place anchor =
    (last first : Pair) → slice_get pairs (place - 1) ≡ Some last → slice_get pairs place ≡ Some first
    → IsAnchor last.key first.key anchor
