-- The two halves of a leaf that is split. To know: `halves-are`, `Halves`.
use Rattle.std.proofs.Common.{◌≡◌, ℕ, ◌≤◌, Bool, true, cond, List, [], ◌∷◌, ◌++◌, length, take, drop, refl, sym, ap, ◌∙◌, arith}
use Rattle.std.specs.Prelude.{Option, Some, None, slice_get}
use Rattle.std.specs.List.{AllByRecursion}
use Rattle.std.specs.Ordering.{is_eq}
use Rattle.std.specs.declared.cmp.Ordering.TheVariants.{Less}
use Rattle.std.proofs.lemmas.List.{length-take, length-drop, take-append-drop}
use Rattle.rdb_base.specs.Levels.{or_change}
use Rattle.rdb_base.specs.Order.{key_cmp}
use Rattle.rdb_base.specs.Ranges.{NotBelow, IsBelow}
use Rattle.rdb_base.specs.Runs.{AreBelow, IsBelowAll, change_at}
use Rattle.rdb_base.specs.declared.change.Change.{Change}
use Rattle.rdb_base.specs.declared.pair.Pair.{Pair}
use Rattle.rdb_base.proofs.ChangeLemmas.{change_at-append, change_at-below, or_change-none}
use Rattle.rdb_base.proofs.Lists.{all-weaker}
use Rattle.rdb_base.proofs.OrderLemmas.{lt_le}
use Rattle.rdb_base.proofs.RangeLemmas.{range_from}
use Rattle.worm_leaf.specs.Anchors.{IsAnchor, PartsAt}
use Rattle.worm_leaf.specs.Leaves.{LeafState, IsLeaf, covers}
use Rattle.worm_leaf.specs.declared.limits.TheConstants.{LEAF_PAIRS_MAX, LEAF_PAIRS_KEPT}
use Rattle.worm_leaf.proofs.LeafLemmas.{leaf-left, leaf-right, some_at, split-inside}
use Rattle.worm_core.specs.Events.{left_half, right_half}

-- a key above all pairs has no change there
change_at-above : (key : List ℕ) (pairs : List Pair) → AreBelow pairs key → change_at pairs key ≡ None
change_at-above key [] below = refl
change_at-above key (p ∷ ps) below = rw below.0 (change_at-above key ps below.1)

-- at a key below all of the back the front has what both have, and at a key above all of the front the back has it
change_at-front : (xs ys : List Pair) (key : List ℕ) → IsBelowAll key ys → change_at xs key ≡ change_at (xs ++ ys) key
change_at-front xs ys key below = sym (change_at-append xs ys key ∙ ap (or_change (change_at xs key)) (change_at-below key ys below) ∙ or_change-none (change_at xs key))

change_at-back : (xs ys : List Pair) (key : List ℕ) → AreBelow xs key → change_at ys key ≡ change_at (xs ++ ys) key
change_at-back xs ys key below = sym (change_at-append xs ys key ∙ ap (λ (o : Option Change). or_change o (change_at ys key)) (change_at-above key xs below))

-- both are leaves, the anchor is inside the range, and each half has the changes of the whole on its side
pub record Halves (leaf : LeafState) (anchor : List ℕ) : Type 0 where
  pub left : IsLeaf (left_half leaf anchor)
  pub right : IsLeaf (right_half leaf anchor)
  pub low : key_cmp leaf.low anchor ≡ Less
  pub high : IsBelow leaf.high anchor
  pub left_change : (key : List ℕ) → key_cmp key anchor ≡ Less → change_at (take LEAF_PAIRS_KEPT leaf.pairs) key ≡ change_at leaf.pairs key
  pub right_change : (key : List ℕ) → NotBelow key anchor → change_at (drop LEAF_PAIRS_KEPT leaf.pairs) key ≡ change_at leaf.pairs key

changes_left : (leaf : LeafState) (anchor key : List ℕ) → IsLeaf (right_half leaf anchor) → key_cmp key anchor ≡ Less → change_at (take LEAF_PAIRS_KEPT leaf.pairs) key ≡ change_at leaf.pairs key
changes_left leaf anchor key right lt =
    let back : IsBelowAll key (drop LEAF_PAIRS_KEPT leaf.pairs) =
    all-weaker (λ (p : Pair). covers (right_half leaf anchor) p.key ≡ true) (λ (p : Pair). key_cmp key p.key ≡ Less) (λ p inside. lt_le key anchor p.key lt (range_from anchor leaf.high p.key inside).0) (drop LEAF_PAIRS_KEPT leaf.pairs) right.covered in
    change_at-front (take LEAF_PAIRS_KEPT leaf.pairs) (drop LEAF_PAIRS_KEPT leaf.pairs) key back ∙ ap (λ (ps : List Pair). change_at ps key) (take-append-drop LEAF_PAIRS_KEPT leaf.pairs)

changes_right : (leaf : LeafState) (anchor key : List ℕ) → IsLeaf (left_half leaf anchor) → NotBelow key anchor → change_at (drop LEAF_PAIRS_KEPT leaf.pairs) key ≡ change_at leaf.pairs key
changes_right leaf anchor key left up =
    let front : AreBelow (take LEAF_PAIRS_KEPT leaf.pairs) key =
    all-weaker (λ (p : Pair). covers (left_half leaf anchor) p.key ≡ true) (λ (p : Pair). key_cmp p.key key ≡ Less) (λ p inside. lt_le p.key anchor key (range_from leaf.low (Some anchor) p.key inside).1 up) (take LEAF_PAIRS_KEPT leaf.pairs) left.covered in
    change_at-back (take LEAF_PAIRS_KEPT leaf.pairs) (drop LEAF_PAIRS_KEPT leaf.pairs) key front ∙ ap (λ (ps : List Pair). change_at ps key) (take-append-drop LEAF_PAIRS_KEPT leaf.pairs)

pub halves-are : (leaf : LeafState) (anchor : List ℕ) → IsLeaf leaf → length leaf.pairs ≡ LEAF_PAIRS_MAX → PartsAt leaf.pairs LEAF_PAIRS_KEPT anchor → Halves leaf anchor
halves-are leaf anchor is full parts =
    let len : length leaf.pairs ≡ 64 = full in
    let here : PartsAt leaf.pairs 32 anchor = parts in
    let last : (p : Pair) × (slice_get leaf.pairs 31 ≡ Some p) = some_at leaf.pairs 31 (omega (arith, len)) in
    let first : (p : Pair) × (slice_get leaf.pairs 32 ≡ Some p) = some_at leaf.pairs 32 (omega (arith, len)) in
    let anchored : IsAnchor last.0.key first.0.key anchor = here last.0 first.0 last.1 first.1 in
    let inside : (key_cmp leaf.low anchor ≡ Less) × (covers leaf anchor ≡ true) = split-inside leaf anchor is full parts in
    let left : IsLeaf (left_half leaf anchor) = leaf-left leaf.low leaf.high leaf.pairs 31 last.0 first.0 anchor is last.1 anchored (omega (arith, len, length-take 32 leaf.pairs)) in
    let right : IsLeaf (right_half leaf anchor) = leaf-right leaf.low leaf.high leaf.pairs 32 last.0 first.0 anchor is first.1 anchored (omega (arith, len, length-drop 32 leaf.pairs)) in
    record {
      left = left;
      right = right;
      low = inside.0;
      high = (range_from leaf.low leaf.high anchor inside.1).1;
      left_change = λ key lt. changes_left leaf anchor key right lt;
      right_change = λ key up. changes_right leaf anchor key left up;
    }
