-- Leaves that meet, at their numbers. To know: `around`, `IsRun-chain`, `lows-rise`.
use Rattle.std.proofs.Common.{◌≡◌, ℕ, true, false, Bool, List, [], ◌∷◌, map, refl, sym, ap, subst}
use Rattle.std.specs.Prelude.{Some, None}
use Rattle.std.specs.List.{AllByRecursion}
use Rattle.std.specs.declared.cmp.Ordering.TheVariants.{Less}
use Rattle.rdb_base.specs.Order.{key_cmp}
use Rattle.rdb_base.specs.Ranges.{NotBelow, in_range}
use Rattle.rdb_base.specs.Runs.{IsRun, IsBelowAll, AreBelow}
use Rattle.rdb_base.specs.declared.pair.Pair.{Pair}
use Rattle.rdb_base.proofs.OrderLemmas.{lt_lt, lt_le}
use Rattle.rdb_base.proofs.RangeLemmas.{range_from, range_to, range_past}
use Rattle.rdb_base.proofs.RunLemmas.{IsRun-append}
use Rattle.rdb_base.proofs.Lists.{all-weaker, all-append, all-back}
use Rattle.worm_leaf.specs.Leaves.{LeafState, IsLeaf, covers}
use Rattle.leaf_table.specs.Chains.{IsChain, pairs_of}
use Rattle.leaf_table.specs.Tables.{Around}

-- a leaf's pairs are below its high bound
below-high : (leaf : LeafState) (high : List ℕ) → IsLeaf leaf → leaf.high ≡ Some high → AreBelow leaf.pairs high
below-high leaf high is e = all-weaker (λ (p : Pair). covers leaf p.key ≡ true) (λ (p : Pair). key_cmp p.key high ≡ Less) one leaf.pairs is.covered
  where
    one : (p : Pair) → covers leaf p.key ≡ true → key_cmp p.key high ≡ Less
    one p h = (range_from leaf.low (Some high) p.key (subst (λ o. in_range leaf.low o p.key ≡ true) e h)).1

-- and not below its low bound
from-low : (leaf : LeafState) → IsLeaf leaf → AllByRecursion (λ (p : Pair). NotBelow p.key leaf.low) leaf.pairs
from-low leaf is = all-weaker (λ (p : Pair). covers leaf p.key ≡ true) (λ (p : Pair). NotBelow p.key leaf.low) (λ p h. (range_from leaf.low leaf.high p.key h).0) leaf.pairs is.covered

-- a key below a leaf's low bound is below all of its pairs
above-key : (key : List ℕ) (leaf : LeafState) → IsLeaf leaf → key_cmp key leaf.low ≡ Less → IsBelowAll key leaf.pairs
above-key key leaf is lt = all-weaker (λ (p : Pair). NotBelow p.key leaf.low) (λ (p : Pair). key_cmp key p.key ≡ Less) (λ p h. lt_le key leaf.low p.key lt h) leaf.pairs (from-low leaf is)

module _ (at : ℕ → LeafState) where
  -- the low bounds of a chain rise
  pub lows-rise : (n : ℕ) (rest : List ℕ) → IsChain (map at (n ∷ rest)) → AllByRecursion (λ (m : ℕ). key_cmp (at n).low (at m).low ≡ Less) rest
  lows-rise n [] h = tt
  lows-rise n (m ∷ rest) h = (
    h.1.1,
    all-weaker (λ (k : ℕ). key_cmp (at m).low (at k).low ≡ Less) (λ (k : ℕ). key_cmp (at n).low (at k).low ≡ Less)
        (λ k lt. lt_lt (at n).low (at m).low (at k).low h.1.1 lt) rest (lows-rise m rest h.2),
  )

  -- a key below the first low bound is below all of them, and below all pairs
  pub lows-above : (key : List ℕ) (n : ℕ) (rest : List ℕ) → IsChain (map at (n ∷ rest)) → key_cmp key (at n).low ≡ Less → AllByRecursion (λ (m : ℕ). key_cmp key (at m).low ≡ Less) (n ∷ rest)
  lows-above key n rest h lt = (lt, all-weaker (λ (m : ℕ). key_cmp (at n).low (at m).low ≡ Less) (λ (m : ℕ). key_cmp key (at m).low ≡ Less) (λ m more. lt_lt key (at n).low (at m).low lt more) rest (lows-rise n rest h))

  pub pairs-above : (key : List ℕ) (n : ℕ) (rest : List ℕ) → IsChain (map at (n ∷ rest)) → key_cmp key (at n).low ≡ Less → IsBelowAll key (pairs_of (map at (n ∷ rest)))
  pairs-above key n [] h lt = all-append (λ (p : Pair). key_cmp key p.key ≡ Less) (at n).pairs [] (above-key key (at n) h.0 lt) tt
  pairs-above key n (m ∷ rest) h lt = all-append (λ (p : Pair). key_cmp key p.key ≡ Less) (at n).pairs (pairs_of (map at (m ∷ rest))) (above-key key (at n) h.0 lt)
      (pairs-above key m rest h.2 (lt_lt key (at n).low (at m).low lt h.1.1))

  -- the pairs of a chain are a run
  pub IsRun-chain : (order : List ℕ) → IsChain (map at order) → IsRun (pairs_of (map at order))
  IsRun-chain [] h = tt
  IsRun-chain (n ∷ []) h = IsRun-append (at n).pairs [] h.0.rises tt (all-weaker (λ (p : Pair). covers (at n) p.key ≡ true) (λ (p : Pair). IsBelowAll p.key []) (λ p c. tt) (at n).pairs h.0.covered)
  IsRun-chain (n ∷ (m ∷ rest)) h = IsRun-append (at n).pairs (pairs_of (map at (m ∷ rest))) h.0.rises (IsRun-chain (m ∷ rest) h.2)
      (all-weaker (λ (p : Pair). key_cmp p.key (at m).low ≡ Less) (λ (p : Pair). IsBelowAll p.key (pairs_of (map at (m ∷ rest)))) (λ p lt. pairs-above p.key m rest h.2 lt) (at n).pairs (below-high (at n) (at m).low h.0 h.1.0))

  -- the first leaf covers the key
  here-is : (key : List ℕ) (n : ℕ) (rest : List ℕ) → IsChain (map at (n ∷ rest)) → covers (at n) key ≡ true → Around at (n ∷ rest) key
  here-is key n rest h c = record {
    before = [];
    number = n;
    after = rest;
    order_is = refl;
    covered = c;
    lows_before = tt;
    not_before = tt;
    lows_after = (lows rest h).0;
    below = tt;
    above = (lows rest h).1;
  }
    where
      lows : (others : List ℕ) → IsChain (map at (n ∷ others)) → AllByRecursion (λ (m : ℕ). key_cmp key (at m).low ≡ Less) others × IsBelowAll key (pairs_of (map at others))
      lows [] g = (tt, tt)
      lows (m ∷ more) g =
          let lt : key_cmp key (at m).low ≡ Less = (range_from (at n).low (Some (at m).low) key (subst (λ o. in_range (at n).low o key ≡ true) g.1.0 c)).1 in
          (lows-above key m more g.2 lt, pairs-above key m more g.2 lt)

  -- a later leaf does
  further-is : (key : List ℕ) (n m : ℕ) (more : List ℕ) → IsChain (map at (n ∷ (m ∷ more))) → covers (at n) key ≡ false → NotBelow key (at m).low → Around at (m ∷ more) key → Around at (n ∷ (m ∷ more)) key
  further-is key n m more h c past r = record {
    before = n ∷ r.before;
    number = r.number;
    after = r.after;
    order_is = ap (λ xs. n ∷ xs) r.order_is;
    covered = r.covered;
    lows_before = ((all-back (λ (k : ℕ). key_cmp (at n).low (at k).low ≡ Less) r.before (r.number ∷ r.after) (subst (AllByRecursion (λ (k : ℕ). key_cmp (at n).low (at k).low ≡ Less)) r.order_is (lows-rise n (m ∷ more) h))).0, r.lows_before);
    not_before = (c, r.not_before);
    lows_after = r.lows_after;
    below = all-append (λ (p : Pair). key_cmp p.key key ≡ Less) (at n).pairs (pairs_of (map at r.before))
        (all-weaker (λ (p : Pair). key_cmp p.key (at m).low ≡ Less) (λ (p : Pair). key_cmp p.key key ≡ Less) (λ p lt. lt_le p.key (at m).low key lt past) (at n).pairs (below-high (at n) (at m).low h.0 h.1.0)) r.below;
    above = r.above;
  }

  -- a key that is not below the first low bound has a leaf that covers it
  pub around : (key : List ℕ) (n : ℕ) (rest : List ℕ) → IsChain (map at (n ∷ rest)) → NotBelow key (at n).low → Around at (n ∷ rest) key
  around key n [] h from = here-is key n [] h (subst (λ o. in_range (at n).low o key ≡ true) (sym h.1) (range_to (at n).low None key from tt))
  around key n (m ∷ more) h from = by (covers (at n) key) refl (λ past. around key m more h.2 past)
    where
      by : (b : Bool) → covers (at n) key ≡ b → (NotBelow key (at m).low → Around at (m ∷ more) key) → Around at (n ∷ (m ∷ more)) key
      by true c next = here-is key n (m ∷ more) h c
      by false c next =
          let past : NotBelow key (at m).low = range_past (at n).low (at m).low key from (subst (λ o. in_range (at n).low o key ≡ false) h.1.0 c) in
          further-is key n m more h c past (next past)
