-- A leaf in the place of another, and two in its place. To know: `parts-with`, `parts-split`.
use Rattle.std.proofs.Common.{◌≡◌, true, List, [], ◌∷◌, ◌++◌, refl, sym, ap, ◌∙◌, subst}
use Rattle.std.specs.Prelude.{Some}
use Rattle.std.specs.declared.cmp.Ordering.TheVariants.{Less}
use Rattle.rdb_base.specs.Order.{key_cmp}
use Rattle.rdb_base.specs.Ranges.{in_range}
use Rattle.rdb_base.proofs.RangeLemmas.{range_from}
use Rattle.worm_leaf.specs.Leaves.{LeafState, IsLeaf, covers}
use Rattle.leaf_table.specs.Chains.{Meets, IsChain, PartsAll}

-- what a leaf meets stays where the first leaf's low bound stays
meets-same : (leaf : LeafState) (first other : LeafState) (more others : List LeafState) → first.low ≡ other.low → Meets leaf (first ∷ more) → Meets leaf (other ∷ others)
meets-same leaf first other more others e h = (h.0 ∙ ap Some e, subst (λ low. key_cmp leaf.low low ≡ Less) e h.1)

-- another leaf with the same bounds meets what the first met
meets-bounds : (old new : LeafState) (after : List LeafState) → new.low ≡ old.low → new.high ≡ old.high → Meets old after → Meets new after
meets-bounds old new [] low high h = high ∙ h
meets-bounds old new (next ∷ more) low high h = (high ∙ h.0, subst (λ x. key_cmp x next.low ≡ Less) (sym low) h.1)

-- what stands before a leaf stands before leaves that begin where it begins
chain-before : (before : List LeafState) (old : LeafState) (after : List LeafState) (new : LeafState) (more : List LeafState)
    → old.low ≡ new.low → (IsChain (old ∷ after) → IsChain (new ∷ more)) → IsChain (before ++ old ∷ after) → IsChain (before ++ new ∷ more)
chain-before [] old after new more e f h = f h
chain-before (x ∷ []) old after new more e f h = (h.0, meets-same x old new after more e h.1, f h.2)
chain-before (x ∷ (y ∷ before)) old after new more e f h = (h.0, meets-same x y y (before ++ old ∷ after) (before ++ new ∷ more) refl h.1, chain-before (y ∷ before) old after new more e f h.2)

parts-before : (before : List LeafState) (old : LeafState) (after : List LeafState) (new : LeafState) (more : List LeafState)
    → old.low ≡ new.low → (IsChain (old ∷ after) → IsChain (new ∷ more)) → PartsAll (before ++ old ∷ after) → PartsAll (before ++ new ∷ more)
parts-before [] old after new more e f h = (sym e ∙ h.0, f h.1)
parts-before (x ∷ before) old after new more e f h = (h.0, chain-before (x ∷ before) old after new more e f h.1)

-- a leaf with the same bounds in a leaf's place
pub parts-with : (before : List LeafState) (old new : LeafState) (after : List LeafState) → new.low ≡ old.low → new.high ≡ old.high → IsLeaf new
    → PartsAll (before ++ old ∷ after) → PartsAll (before ++ new ∷ after)
parts-with before old new after low high is h = parts-before before old after new after (sym low) (λ g. (is, meets-bounds old new after low high g.1, g.2)) h

-- two leaves that part its range in a leaf's place
pub parts-split : (before : List LeafState) (old left right : LeafState) (after : List LeafState)
    → left.low ≡ old.low → left.high ≡ Some right.low → right.high ≡ old.high
    → IsLeaf left → IsLeaf right → key_cmp old.low right.low ≡ Less → covers old right.low ≡ true
    → PartsAll (before ++ old ∷ after) → PartsAll (before ++ left ∷ (right ∷ after))
parts-split before old left right after low high end is_left is_right above inside h = parts-before before old after left (right ∷ after) (sym low) both h
  where
    meets : (others : List LeafState) → Meets old others → Meets right others
    meets [] m = end ∙ m
    meets (next ∷ more) m = (end ∙ m.0, (range_from old.low (Some next.low) right.low (subst (λ o. in_range old.low o right.low ≡ true) m.0 inside)).1)

    both : IsChain (old ∷ after) → IsChain (left ∷ (right ∷ after))
    both g = (is_left, (high, subst (λ x. key_cmp x right.low ≡ Less) (sym low) above), (is_right, meets after g.1, g.2))
