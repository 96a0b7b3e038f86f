-- The leaf that the trie gives covers the key. To know: `cover-around`, `anchor-new`.
use Rattle.std.proofs.Common.{◌≡◌, ℕ, zero, suc, ◌+◌, ◌<◌, List, [], ◌∷◌, ◌++◌, length, refl, sym, ap, ◌∙◌, subst, arith, ◌⊎◌, inl, inr}
use Rattle.std.specs.Prelude.{Some, slice_get}
use Rattle.std.specs.List.{AllByRecursion}
use Rattle.std.specs.declared.cmp.Ordering.{Ordering}
use Rattle.std.specs.declared.cmp.Ordering.TheVariants.{Less, Equal, Greater}
use Rattle.rdb_base.specs.Order.{key_cmp}
use Rattle.rdb_base.specs.Ranges.{NotBelow}
use Rattle.rdb_base.proofs.PlaceLemmas.{some_injective}
use Rattle.rdb_base.proofs.OrderLemmas.{irreflexive, lt_lt}
use Rattle.rdb_base.proofs.RangeLemmas.{range_from}
use Rattle.rdb_base.proofs.KeyOrder.{same_key, turned_greater}
use Rattle.rdb_base.proofs.Lists.{all-back}
use Rattle.worm_leaf.specs.Leaves.{LeafState}
use Rattle.meta_trie.specs.Tries.{Anchored, root, cover, IsNew}
use Rattle.meta_trie.specs.Nodes.{Pick, AtMost, Best}
use Rattle.meta_trie.proofs.CoverLemmas.{cover-is}
use Rattle.leaf_table.specs.Chains.{PartsAll}
use Rattle.leaf_table.specs.Tables.{leaf_at, chain_of, anchors_from, IsTable, Around}
use Rattle.leaf_table.proofs.ChainLemmas.{around}

-- the anchor of a leaf
anchor-of : (k n : ℕ) (leaves : List LeafState) → n < length leaves → slice_get (anchors_from k leaves) n ≡ Some (record { anchor = (leaf_at leaves n).low; leaf = k + n })
anchor-of k zero (leaf ∷ leaves) lt = ap (λ m. Some (record { anchor = leaf.low; leaf = m })) (omega arith)
anchor-of k (suc n) (leaf ∷ leaves) lt = anchor-of (k + 1) n leaves (omega (arith, lt)) ∙ ap (λ m. Some (record { anchor = (leaf_at leaves n).low; leaf = m })) (omega arith)
anchor-of k n [] lt = absurd (omega (arith, lt))

-- where they are numbered from 0 on
anchor-at : (n : ℕ) (leaves : List LeafState) → n < length leaves → slice_get (anchors_from 0 leaves) n ≡ Some (record { anchor = (leaf_at leaves n).low; leaf = n })
anchor-at n leaves lt = anchor-of 0 n leaves lt ∙ ap (λ m. Some (record { anchor = (leaf_at leaves n).low; leaf = m })) (omega arith)

-- no anchor is past the last leaf
anchor-within : (k n : ℕ) (leaves : List LeafState) (a : Anchored) → slice_get (anchors_from k leaves) n ≡ Some a → n < length leaves
anchor-within k n [] a e = absurd cc
anchor-within k zero (leaf ∷ leaves) a e = omega arith
anchor-within k (suc n) (leaf ∷ leaves) a e = let lt : n < length leaves = anchor-within (k + 1) n leaves a e in omega (arith, lt)

-- what holds of all holds of the one at a place
at-place : (P : ℕ → Type 0) (xs : List ℕ) (place n : ℕ) → AllByRecursion P xs → slice_get xs place ≡ Some n → P n
at-place P (x ∷ xs) zero n h e = subst P (some_injective x n e) h.0
at-place P (x ∷ xs) (suc place) n h e = at-place P xs place n h.1 e
at-place P [] place n h e = absurd cc

-- a number of a list stands before one of its numbers, is that, or stands after it
pub one-of : (P Q : ℕ → Type 0) (before : List ℕ) (n : ℕ) (after : List ℕ) (place m : ℕ) → AllByRecursion P before → AllByRecursion Q after
    → slice_get (before ++ n ∷ after) place ≡ Some m → P m ⊎ ((m ≡ n) ⊎ Q m)
one-of P Q [] n after zero m p q e = inr (inl (sym (some_injective n m e)))
one-of P Q [] n after (suc place) m p q e = inr (inr (at-place Q after place m q e))
one-of P Q (x ∷ before) n after zero m p q e = inl (subst P (some_injective x m e) p.0)
one-of P Q (x ∷ before) n after (suc place) m p q e = one-of P Q before n after place m p.1 q e

-- a key is not below a bound: the bound is below the key, or is that
at-most : (low key : List ℕ) → NotBelow key low → AtMost low key
at-most low key h = by (key_cmp low key) refl
  where
    by : (r : Ordering) → key_cmp low key ≡ r → AtMost low key
    by Less e = inl e
    by Equal e = inr (same_key low key e)
    by Greater e = absurd (h (turned_greater low key e))

module _ (leaves : List LeafState) (order : List ℕ) (added : List Anchored) (t : IsTable leaves order added) (key : List ℕ) (r : Around (leaf_at leaves) order key) where
  abbrev pub at : ℕ → LeafState
  at = leaf_at leaves

  -- the covering leaf is one of the leaves
  pub number-within : r.number < length leaves
  number-within = (all-back (λ (n : ℕ). n < length leaves) r.before (r.number ∷ r.after) (subst (AllByRecursion (λ (n : ℕ). n < length leaves)) r.order_is t.within)).0

  -- each leaf begins below it, is that, or begins above the key
  pub low-of : (m : ℕ) → m < length leaves → (key_cmp (at m).low (at r.number).low ≡ Less) ⊎ ((m ≡ r.number) ⊎ (key_cmp key (at m).low ≡ Less))
  low-of m lt =
      let p = t.there m lt in
      one-of (λ (x : ℕ). key_cmp (at x).low (at r.number).low ≡ Less) (λ (x : ℕ). key_cmp key (at x).low ≡ Less) r.before r.number r.after p.0 m r.lows_before r.lows_after (subst (λ xs. slice_get xs p.0 ≡ Some m) r.order_is p.1)

  from : NotBelow key (at r.number).low
  from = (range_from (at r.number).low (at r.number).high key r.covered).0

  -- the anchor at a place is the low bound of the leaf with that number
  pub picked : (j : ℕ) (b : Anchored) → Pick (root ∷ added) j b → (j < length leaves) × (b ≡ record { anchor = (at j).low; leaf = j })
  picked j b e =
      let named : slice_get (anchors_from 0 leaves) j ≡ Some b = subst (λ xs. slice_get xs j ≡ Some b) t.named e in
      let lt : j < length leaves = anchor-within 0 j leaves b named in
      (lt, some_injective b (record { anchor = (at j).low; leaf = j }) (sym named ∙ anchor-at j leaves lt))

  -- no leaf but the covering one begins where it does
  same-low : (m : ℕ) → m < length leaves → (at m).low ≡ (at r.number).low → m ≡ r.number
  same-low m lt e = elim (low-of m lt) [
    | inl below ↦ absurd (irreflexive (at r.number).low (subst (λ x. key_cmp x (at r.number).low ≡ Less) e below))
    | inr (inl is) ↦ is
    | inr (inr above) ↦ absurd (from (subst (λ x. key_cmp key x ≡ Less) e above))
  ]

  -- it has the greatest anchor that is not above the key
  best-is : Best (root ∷ added) key r.number (record { anchor = (at r.number).low; leaf = r.number })
  best-is = record {
    pick = subst (λ xs. slice_get xs r.number ≡ Some (record { anchor = (at r.number).low; leaf = r.number })) (sym t.named) (anchor-at r.number leaves number-within);
    fits = at-most (at r.number).low key from;
    best = all;
  }
    where
      all : (j : ℕ) (b : Anchored) → Pick (root ∷ added) j b → AtMost b.anchor key → AtMost b.anchor (at r.number).low
      all j b e most =
          let is = picked j b e in
          let low : b.anchor ≡ (at j).low = ap (λ (x : Anchored). x.anchor) is.1 in
          subst (λ x. AtMost x (at r.number).low) (sym low) (elim (low-of j is.0) [
            | inl below ↦ inl below
            | inr (inl same) ↦ inr (ap (λ n. (at n).low) same)
            | inr (inr above) ↦ absurd (not_both (subst (λ x. AtMost x key) low most) above)
          ])
        where
          not_both : {x : List ℕ} → AtMost x key → key_cmp key x ≡ Less → ⊥
          not_both {x} (inl lt) gt = irreflexive key (lt_lt key x key gt lt)
          not_both {x} (inr e) gt = irreflexive key (subst (λ y. key_cmp key y ≡ Less) e gt)

  -- an anchor between its low bound and the next leaf is new
  pub anchor-new : key_cmp (at r.number).low key ≡ Less → IsNew added key
  anchor-new above place a e same =
      let is = picked place a e in
      let low : (at place).low ≡ key = sym (ap (λ (x : Anchored). x.anchor) is.1) ∙ same in
      elim (low-of place is.0) [
        | inl below ↦ irreflexive key (subst (λ x. key_cmp x key ≡ Less) low (lt_lt (at place).low (at r.number).low key below above))
        | inr (inl number) ↦ irreflexive key (subst (λ x. key_cmp x key ≡ Less) (sym (ap (λ n. (at n).low) number) ∙ low) above)
        | inr (inr more) ↦ irreflexive key (subst (λ x. key_cmp key x ≡ Less) low more)
      ]

-- two leaves that begin at one place are one
distinct : (leaves : List LeafState) (order : List ℕ) (added : List Anchored) → IsTable leaves order added
    → ((key : List ℕ) → Around (leaf_at leaves) order key) → (i j : ℕ) (a b : Anchored) → Pick (root ∷ added) i a → Pick (root ∷ added) j b → a.anchor ≡ b.anchor → i ≡ j
distinct leaves order added t has i j a b e f same =
    let r = has (leaf_at leaves i).low in
    let one = picked leaves order added t (leaf_at leaves i).low r i a e in
    let other = picked leaves order added t (leaf_at leaves i).low r j b f in
    let low : (leaf_at leaves j).low ≡ (leaf_at leaves i).low = sym (ap (λ (x : Anchored). x.anchor) other.1) ∙ sym same ∙ ap (λ (x : Anchored). x.anchor) one.1 in
    own i one.0 refl r ∙ sym (own j other.0 low r)
  where
    own : (m : ℕ) → m < length leaves → (leaf_at leaves m).low ≡ (leaf_at leaves i).low → (r : Around (leaf_at leaves) order (leaf_at leaves i).low) → m ≡ r.number
    own m lt e r = elim (low-of leaves order added t (leaf_at leaves i).low r m lt) [
      | inl below ↦ absurd ((range_from (leaf_at leaves r.number).low (leaf_at leaves r.number).high (leaf_at leaves i).low r.covered).0 (subst (λ x. key_cmp x (leaf_at leaves r.number).low ≡ Less) e below))
      | inr (inl is) ↦ is
      | inr (inr above) ↦ absurd (irreflexive (leaf_at leaves i).low (subst (λ x. key_cmp (leaf_at leaves i).low x ≡ Less) e above))
    ]

-- each key has a leaf that covers it
pub around-any : (leaves : List LeafState) (order : List ℕ) (key : List ℕ) → PartsAll (chain_of leaves order) → Around (leaf_at leaves) order key
around-any leaves [] key h = absurd h
around-any leaves (n ∷ rest) key h = around (leaf_at leaves) key n rest h.1 (subst (NotBelow key) (sym h.0) (never key))
  where
    never : (k : List ℕ) → NotBelow k []
    never [] e = absurd cc
    never (x ∷ k) e = absurd cc

-- the trie gives the leaf that covers the key
pub cover-around : (leaves : List LeafState) (order : List ℕ) (added : List Anchored) (t : IsTable leaves order added) (key : List ℕ) (r : Around (leaf_at leaves) order key)
    → cover added key ≡ r.number
cover-around leaves order added t key r =
    cover-is added key r.number (record { anchor = (leaf_at leaves r.number).low; leaf = r.number })
    (distinct leaves order added t (λ k. around-any leaves order k t.parts)) (best-is leaves order added t key r)
