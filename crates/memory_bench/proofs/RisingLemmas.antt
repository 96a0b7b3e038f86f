-- Anchors that are added rising. To know: `new-above`, `none_above-push`.
use Rattle.std.proofs.Common.{◌≡◌, ℕ, zero, suc, List, [], ◌∷◌, ◌++◌, length, subst, ◌⊎◌, inl, inr}
use Rattle.std.specs.Prelude.{Some, slice_get}
use Rattle.std.specs.declared.cmp.Ordering.TheVariants.{Less}
use Rattle.rdb_base.specs.Order.{key_cmp}
use Rattle.rdb_base.specs.Ranges.{NotBelow}
use Rattle.rdb_base.proofs.OrderLemmas.{irreflexive, le_lt, lt_not}
use Rattle.rdb_base.proofs.PlaceLemmas.{get_snoc, some_injective}
use Rattle.meta_trie.specs.Tries.{Anchored, root, IsNew}
use Rattle.memory_bench.specs.Rising.{NoneAbove}

-- an anchor above the last one is new
pub new-above : (added : List Anchored) (last anchor : List ℕ) → NoneAbove added last → key_cmp last anchor ≡ Less → IsNew added anchor
new-above added last anchor none lt place a pick same = irreflexive anchor (subst (λ (z : List ℕ). key_cmp z anchor ≡ Less) same (le_lt a.anchor last anchor (none place a pick) lt))

-- with it none is above it
pub none_above-push : (added : List Anchored) (last anchor : List ℕ) (leaf : ℕ) → NoneAbove added last → key_cmp last anchor ≡ Less → NoneAbove (added ++ record { anchor = anchor; leaf = leaf } ∷ []) anchor
none_above-push added last anchor leaf none lt place b pick = by (get_snoc (root ∷ added) (record { anchor = anchor; leaf = leaf }) b place pick)
  where
    by : (slice_get (root ∷ added) place ≡ Some b) ⊎ ((place ≡ length (root ∷ added)) × (record { anchor = anchor; leaf = leaf } ≡ b)) → NotBelow anchor b.anchor
    by (inl old) = lt_not b.anchor anchor (le_lt b.anchor last anchor (none place b old) lt)
    by (inr new) = subst (λ (z : Anchored). NotBelow anchor z.anchor) new.1 (irreflexive anchor)

-- of the empty anchor alone none is above the empty string
pub none_above-root : NoneAbove [] []
none_above-root zero a pick = subst (λ (z : Anchored). NotBelow [] z.anchor) (some_injective root a pick) (irreflexive [])
none_above-root (suc place) a pick = absurd cc
