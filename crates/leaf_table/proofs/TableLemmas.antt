-- A table whose leaf got another change, and one whose leaf was split. To know: `table-with`, `table-split`.
use Rattle.std.proofs.Common.{◌≡◌, ◌≢◌, ℕ, zero, suc, ◌+◌, ◌<◌, ◌≤◌, true, List, [], ◌∷◌, ◌++◌, length, map, set, refl, sym, ap, ◌∙◌, subst, arith, ◌⊎◌, inl, inr}
use Rattle.std.specs.Prelude.{Some, slice_get}
use Rattle.std.specs.List.{AllByRecursion}
use Rattle.std.specs.declared.cmp.Ordering.TheVariants.{Less}
use Rattle.std.proofs.lemmas.Bool.{cases_lt}
use Rattle.std.proofs.lemmas.List.{get_or-set_same, get_or-set_other, length-set, map-append, length-append}
use Rattle.std.proofs.Math.ListN.{get_or-append}
use Rattle.std.proofs.Math.Seq.{get_or-append_seam}
use Rattle.rdb_base.specs.Order.{key_cmp}
use Rattle.rdb_base.proofs.OrderLemmas.{irreflexive}
use Rattle.rdb_base.proofs.RangeLemmas.{range_from}
use Rattle.rdb_base.proofs.Lists.{all-weaker, all-append, all-front, all-back}
use Rattle.worm_leaf.specs.Leaves.{LeafState, IsLeaf, unused, covers}
use Rattle.meta_trie.specs.Tries.{Anchored}
use Rattle.leaf_table.specs.Chains.{PartsAll}
use Rattle.leaf_table.specs.Tables.{leaf_at, chain_of, anchors_from, IsTable, Lacks, Around}
use Rattle.leaf_table.proofs.ReplaceLemmas.{parts-with, parts-split}
use Rattle.leaf_table.proofs.AnchorLemmas.{number-within}

-- functions that agree at these numbers give the same list
map-same : (f g : ℕ → LeafState) (xs : List ℕ) → AllByRecursion (λ (n : ℕ). f n ≡ g n) xs → map f xs ≡ map g xs
map-same f g [] h = refl
map-same f g (x ∷ xs) h = ap (λ a. a ∷ map f xs) h.0 ∙ ap (λ rest. g x ∷ rest) (map-same f g xs h.1)

-- where the covering leaf's number stands, it stands once
pub lacks-before : (at : ℕ → LeafState) (order key : List ℕ) (r : Around at order key) → Lacks r.number r.before
lacks-before at order key r = all-weaker (λ (m : ℕ). key_cmp (at m).low (at r.number).low ≡ Less) (λ (m : ℕ). m ≢ r.number)
    (λ m lt e. irreflexive (at r.number).low (subst (λ n. key_cmp (at n).low (at r.number).low ≡ Less) e lt)) r.before r.lows_before

pub lacks-after : (at : ℕ → LeafState) (order key : List ℕ) (r : Around at order key) → Lacks r.number r.after
lacks-after at order key r = all-weaker (λ (m : ℕ). key_cmp key (at m).low ≡ Less) (λ (m : ℕ). m ≢ r.number)
    (λ m lt e. (range_from (at r.number).low (at r.number).high key r.covered).0 (subst (λ n. key_cmp key (at n).low ≡ Less) e lt)) r.after r.lows_after

-- leaves at other numbers stay
pub set-others : (leaves : List LeafState) (n : ℕ) (leaf : LeafState) (xs : List ℕ) → Lacks n xs → chain_of (set leaves n leaf) xs ≡ chain_of leaves xs
set-others leaves n leaf xs h = map-same (leaf_at (set leaves n leaf)) (leaf_at leaves) xs (all-weaker (λ (m : ℕ). m ≢ n) (λ (m : ℕ). leaf_at (set leaves n leaf) m ≡ leaf_at leaves m) (λ m ne. get_or-set_other leaves n m leaf unused ne) xs h)

-- the leaves in order, around a number
pub chain-around : (leaves : List LeafState) (before : List ℕ) (n : ℕ) (after : List ℕ) → chain_of leaves (before ++ n ∷ after) ≡ chain_of leaves before ++ leaf_at leaves n ∷ chain_of leaves after
chain-around leaves before n after = map-append (leaf_at leaves) before (n ∷ after)

-- anchors stay where the low bound stays
anchors-set : (k : ℕ) (leaves : List LeafState) (n : ℕ) (leaf : LeafState) → leaf.low ≡ (leaf_at leaves n).low → anchors_from k (set leaves n leaf) ≡ anchors_from k leaves
anchors-set k [] n leaf e = refl
anchors-set k (x ∷ leaves) zero leaf e = ap (λ low. record { anchor = low; leaf = k } ∷ anchors_from (k + 1) leaves) e
anchors-set k (x ∷ leaves) (suc n) leaf e = ap (λ rest. record { anchor = x.low; leaf = k } ∷ rest) (anchors-set (k + 1) leaves n leaf e)

-- and one more is at the end
anchors-push : (k : ℕ) (leaves : List LeafState) (leaf : LeafState) → anchors_from k (leaves ++ leaf ∷ []) ≡ anchors_from k leaves ++ record { anchor = leaf.low; leaf = k + length leaves } ∷ []
anchors-push k [] leaf = ap (λ m. record { anchor = leaf.low; leaf = m } ∷ []) (omega arith)
anchors-push k (x ∷ leaves) leaf = ap (λ rest. record { anchor = x.low; leaf = k } ∷ rest) (anchors-push (k + 1) leaves leaf ∙ ap (λ m. anchors_from (k + 1) leaves ++ record { anchor = leaf.low; leaf = m } ∷ []) (omega arith))

module _ (leaves : List LeafState) (order : List ℕ) (added : List Anchored) (t : IsTable leaves order added) (key : List ℕ) (r : Around (leaf_at leaves) order key) where
  abbrev old : LeafState
  old = leaf_at leaves r.number

  parts : PartsAll (chain_of leaves r.before ++ leaf_at leaves r.number ∷ chain_of leaves r.after)
  parts = subst PartsAll (ap (chain_of leaves) r.order_is ∙ chain-around leaves r.before r.number r.after) t.parts

  module _ (new : LeafState) where
    -- the leaves in order, with another one at the covering leaf's number
    pub chain-with : chain_of (set leaves r.number new) order ≡ chain_of leaves r.before ++ new ∷ chain_of leaves r.after
    chain-with =
        let lt : r.number < length leaves = number-within leaves order added t key r in
        ap (chain_of (set leaves r.number new)) r.order_is
        ∙ chain-around (set leaves r.number new) r.before r.number r.after
        ∙ ap (λ xs. xs ++ leaf_at (set leaves r.number new) r.number ∷ chain_of (set leaves r.number new) r.after) (set-others leaves r.number new r.before (lacks-before (leaf_at leaves) order key r))
        ∙ ap (λ x. chain_of leaves r.before ++ x ∷ chain_of (set leaves r.number new) r.after) (get_or-set_same leaves r.number new unused lt)
        ∙ ap (λ xs. chain_of leaves r.before ++ new ∷ xs) (set-others leaves r.number new r.after (lacks-after (leaf_at leaves) order key r))

    -- another leaf with the same bounds
    pub table-with : new.low ≡ (leaf_at leaves r.number).low → new.high ≡ (leaf_at leaves r.number).high → IsLeaf new → IsTable (set leaves r.number new) order added
    table-with low high is = record {
      parts = subst PartsAll (sym chain-with) (parts-with (chain_of leaves r.before) (leaf_at leaves r.number) new (chain_of leaves r.after) low high is parts);
      within = subst (λ len. AllByRecursion (λ (n : ℕ). n < len) order) (sym (length-set leaves r.number new)) t.within;
      there = λ n lt. t.there n (subst (λ len. n < len) (length-set leaves r.number new) lt);
      named = t.named ∙ sym (anchors-set 0 leaves r.number new low);
    }

  module _ (left right : LeafState) where
    -- the leaves after a split, by number
    abbrev pub parted : List LeafState
    parted = set leaves r.number left ++ right ∷ []

    -- leaves at other numbers stay
    parted-others : (xs : List ℕ) → AllByRecursion (λ (n : ℕ). n < length leaves) xs → Lacks r.number xs → chain_of parted xs ≡ chain_of leaves xs
    parted-others [] w l = refl
    parted-others (m ∷ xs) w l =
        ap (λ x. x ∷ chain_of parted xs)
        (get_or-append (set leaves r.number left) (right ∷ []) unused m (subst (λ len. m < len) (sym (length-set leaves r.number left)) w.0)
        ∙ get_or-set_other leaves r.number m left unused l.0)
        ∙ ap (λ rest. leaf_at leaves m ∷ rest) (parted-others xs w.1 l.1)

    within-before : AllByRecursion (λ (n : ℕ). n < length leaves) r.before
    within-before = all-front (λ (n : ℕ). n < length leaves) r.before (r.number ∷ r.after) (subst (AllByRecursion (λ (n : ℕ). n < length leaves)) r.order_is t.within)

    within-after : AllByRecursion (λ (n : ℕ). n < length leaves) r.after
    within-after = (all-back (λ (n : ℕ). n < length leaves) r.before (r.number ∷ r.after) (subst (AllByRecursion (λ (n : ℕ). n < length leaves)) r.order_is t.within)).1

    left-at : leaf_at parted r.number ≡ left
    left-at =
        let lt : r.number < length leaves = number-within leaves order added t key r in
        get_or-append (set leaves r.number left) (right ∷ []) unused r.number (subst (λ len. r.number < len) (sym (length-set leaves r.number left)) lt)
        ∙ get_or-set_same leaves r.number left unused lt

    right-at : leaf_at parted (length leaves) ≡ right
    right-at = ap (λ n. leaf_at parted n) (sym (length-set leaves r.number left)) ∙ get_or-append_seam (set leaves r.number left) right [] unused

    -- the leaves in order, with both in the covering leaf's place
    pub chain-split : chain_of parted (r.before ++ r.number ∷ (length leaves ∷ r.after)) ≡ chain_of leaves r.before ++ left ∷ (right ∷ chain_of leaves r.after)
    chain-split =
        chain-around parted r.before r.number (length leaves ∷ r.after)
        ∙ ap (λ xs. xs ++ leaf_at parted r.number ∷ (leaf_at parted (length leaves) ∷ chain_of parted r.after)) (parted-others r.before within-before (lacks-before (leaf_at leaves) order key r))
        ∙ ap (λ x. chain_of leaves r.before ++ x ∷ (leaf_at parted (length leaves) ∷ chain_of parted r.after)) left-at
        ∙ ap (λ x. chain_of leaves r.before ++ left ∷ (x ∷ chain_of parted r.after)) right-at
        ∙ ap (λ xs. chain_of leaves r.before ++ left ∷ (right ∷ xs)) (parted-others r.after within-after (lacks-after (leaf_at leaves) order key r))

    length-parted : length parted ≡ length leaves + 1
    length-parted = length-append (set leaves r.number left) (right ∷ []) ∙ ap (λ n. n + 1) (length-set leaves r.number left)

    -- where each number stands, with the new one after the covering leaf's
    moved : (before : List ℕ) (n : ℕ) (after : List ℕ) (new place m : ℕ) → slice_get (before ++ n ∷ after) place ≡ Some m → (p : ℕ) × (slice_get (before ++ n ∷ (new ∷ after)) p ≡ Some m)
    moved [] n after new zero m e = (0, e)
    moved [] n after new (suc place) m e = (suc (suc place), e)
    moved (x ∷ before) n after new zero m e = (0, e)
    moved (x ∷ before) n after new (suc place) m e = let p = moved before n after new place m e in (suc p.0, p.1)

    placed : (before : List ℕ) (n : ℕ) (after : List ℕ) (new : ℕ) → (p : ℕ) × (slice_get (before ++ n ∷ (new ∷ after)) p ≡ Some new)
    placed [] n after new = (1, refl)
    placed (x ∷ before) n after new = let p = placed before n after new in (suc p.0, p.1)

    -- a table after the split of the covering leaf
    pub table-split : left.low ≡ (leaf_at leaves r.number).low → left.high ≡ Some right.low → right.high ≡ (leaf_at leaves r.number).high → right.low ≡ key
        → IsLeaf left → IsLeaf right → key_cmp (leaf_at leaves r.number).low key ≡ Less
        → IsTable parted (r.before ++ r.number ∷ (length leaves ∷ r.after)) (added ++ record { anchor = key; leaf = length leaves } ∷ [])
    table-split low high end begins is_left is_right above = record {
      parts = subst PartsAll (sym chain-split) (parts-split (chain_of leaves r.before) (leaf_at leaves r.number) left right (chain_of leaves r.after) low high end is_left is_right
          (subst (λ x. key_cmp (leaf_at leaves r.number).low x ≡ Less) (sym begins) above) (subst (λ x. covers (leaf_at leaves r.number) x ≡ true) (sym begins) r.covered) parts);
      within = subst (λ len. AllByRecursion (λ (n : ℕ). n < len) (r.before ++ r.number ∷ (length leaves ∷ r.after))) (sym length-parted)
          (all-append (λ (n : ℕ). n < length leaves + 1) r.before (r.number ∷ (length leaves ∷ r.after)) (wider r.before within-before)
          (next (number-within leaves order added t key r), (omega arith, wider r.after within-after)));
      there = found;
      named = ap (λ xs. xs ++ record { anchor = key; leaf = length leaves } ∷ []) (t.named ∙ sym (anchors-set 0 leaves r.number left low))
          ∙ ap (λ a. anchors_from 0 (set leaves r.number left) ++ a ∷ []) (ap (λ n. record { anchor = key; leaf = n }) (sym (length-set leaves r.number left) ∙ omega arith) ∙ ap (λ k. record { anchor = k; leaf = 0 + length (set leaves r.number left) }) (sym begins))
          ∙ sym (anchors-push 0 (set leaves r.number left) right);
    }
      where
        next : {n : ℕ} → n < length leaves → n < length leaves + 1
        next {n} lt = omega (arith, lt)

        wider : (xs : List ℕ) → AllByRecursion (λ (n : ℕ). n < length leaves) xs → AllByRecursion (λ (n : ℕ). n < length leaves + 1) xs
        wider xs h = all-weaker (λ (n : ℕ). n < length leaves) (λ (n : ℕ). n < length leaves + 1) (λ n lt. next lt) xs h

        found : (n : ℕ) → n < length parted → (place : ℕ) × (slice_get (r.before ++ r.number ∷ (length leaves ∷ r.after)) place ≡ Some n)
        found n lt = by (cases_lt n (length leaves))
          where
            by : (n < length leaves) ⊎ (length leaves ≤ n) → (place : ℕ) × (slice_get (r.before ++ r.number ∷ (length leaves ∷ r.after)) place ≡ Some n)
            by (inl less) = let p = t.there n less in moved r.before r.number r.after (length leaves) p.0 n (subst (λ xs. slice_get xs p.0 ≡ Some n) r.order_is p.1)
            by (inr least) =
                let same : length leaves ≡ n = omega (arith, least, lt, length-parted) in
                let p = placed r.before r.number r.after (length leaves) in
                (p.0, p.1 ∙ ap Some same)
