-- The leaf that a table gives, and how many anchors a place has passed. To know: `cover-best`, `passed-within`, `passed-more`.
use Rattle.std.proofs.Common.{◌≡◌, ◌⊎◌, ℕ, zero, suc, ◌+◌, ◌≤◌, Bool, true, false, cond, List, [], ◌∷◌, ◌++◌, length, refl, sym, ap, ◌∙◌, subst, inl, inr, ⊎_elim, arith}
use Rattle.std.specs.Prelude.{slice_get, Some, if◌then◌else◌}
use Rattle.std.specs.Ordering.{is_lt}
use Rattle.std.specs.declared.cmp.Ordering.{Ordering}
use Rattle.std.specs.declared.cmp.Ordering.TheVariants.{Less, Equal, Greater}
use Rattle.rdb_base.specs.Order.{key_cmp}
use Rattle.rdb_base.specs.Ranges.{NotBelow}
use Rattle.rdb_base.proofs.KeyOrder.{key_cmp-same, less_from_test}
use Rattle.rdb_base.proofs.OrderLemmas.{lt_lt}
use Rattle.rdb_base.proofs.PlaceLemmas.{some_injective}
use Rattle.meta_trie.specs.Tries.{Anchored, root, best_of}
use Rattle.meta_trie.specs.Nodes.{AtMost, Best}
use Rattle.meta_trie.proofs.CoverLemmas.{best_of-is}
use Rattle.meta_trie.proofs.PrefixLemmas.{compared, not-below}

-- the empty key is not above any
pub empty-not_above : (key : List ℕ) → NotBelow key []
empty-not_above [] h = absurd cc
empty-not_above (c ∷ key) h = absurd cc

empty-at_most : (key : List ℕ) → AtMost [] key
empty-at_most [] = inr refl
empty-at_most (c ∷ key) = inl refl

at_most : (a b : List ℕ) → NotBelow b a → AtMost a b
at_most a b up = ⊎_elim (λ t. t) (λ below. absurd (up below)) (compared a b)

-- the anchor that a table finds for a key: it is the empty one or stands in the table, it is not above the key, and no other
-- anchor of the table that is not above the key is above it
pub record IsBestIn (key : List ℕ) (added : List Anchored) (found : Anchored) : Type 0 where
  pub is : (found ≡ root) ⊎ ((j : ℕ) × (slice_get added j ≡ Some found))
  pub upto : NotBelow key found.anchor
  pub top : (j : ℕ) (s : Anchored) → slice_get added j ≡ Some s → NotBelow key s.anchor → NotBelow found.anchor s.anchor

pub cover-best : (key : List ℕ) (added : List Anchored) → IsBestIn key added (best_of key root added)
cover-best key added = by_place best.0 best.1
  where
    best : (i : ℕ) × Best (root ∷ added) key i (best_of key root added)
    best = best_of-is key root added (empty-at_most key)

    by_place : (i : ℕ) → Best (root ∷ added) key i (best_of key root added) → IsBestIn key added (best_of key root added)
    by_place i b = record {
      is = place i b.pick;
      upto = not-below (best_of key root added).anchor key b.fits;
      top = λ j s at up. not-below s.anchor (best_of key root added).anchor (b.best (suc j) s at (at_most s.anchor key up));
    }
      where
        place : (i : ℕ) → slice_get (root ∷ added) i ≡ Some (best_of key root added) → (best_of key root added ≡ root) ⊎ ((j : ℕ) × (slice_get added j ≡ Some (best_of key root added)))
        place zero p = inl (sym (some_injective root (best_of key root added) p))
        place (suc j) p = inr (j, p)

-- ---- how many of some anchors are not above a place

abbrev pub passed : List ℕ → List Anchored → ℕ
passed low [] = 0
passed low (s ∷ ss) = (if is_lt (key_cmp low s.anchor) then 0 else 1) + passed low ss

pub passed-within : (low : List ℕ) (ss : List Anchored) → passed low ss ≤ length ss
passed-within low [] = omega arith
passed-within low (s ∷ ss) = by_test (is_lt (key_cmp low s.anchor)) (passed-within low ss)
  where
    by_test : (b : Bool) → passed low ss ≤ length ss → cond b 0 1 + passed low ss ≤ suc (length ss)
    by_test true h = omega arith
    by_test false h = omega arith

pub passed-append : (low : List ℕ) (xs ys : List Anchored) → passed low xs ≤ passed low (xs ++ ys)
passed-append low [] ys = omega arith
passed-append low (x ∷ xs) ys = let h = passed-append low xs ys in omega arith

-- a greater place has passed one that a lower one has passed
passed-one : (low high anchor : List ℕ) → key_cmp low high ≡ Less → (b c : Bool) → is_lt (key_cmp low anchor) ≡ b → is_lt (key_cmp high anchor) ≡ c → cond b 0 1 ≤ cond c 0 1
passed-one low high anchor lt true true e f = omega arith
passed-one low high anchor lt true false e f = omega arith
passed-one low high anchor lt false false e f = omega arith
passed-one low high anchor lt false true e f =
    let below : key_cmp low anchor ≡ Less = lt_lt low high anchor lt (less_from_test (key_cmp high anchor) f) in
    let no : false ≡ true = sym e ∙ ap is_lt below in
    absurd cc

pub passed-up : (low high : List ℕ) (ss : List Anchored) → key_cmp low high ≡ Less → passed low ss ≤ passed high ss
passed-up low high [] lt = omega arith
passed-up low high (s ∷ ss) lt = let one = passed-one low high s.anchor lt _ _ refl refl in let rest = passed-up low high ss lt in omega arith

-- and one more, where an anchor stands at the greater place
pub passed-more : (low high : List ℕ) (ss : List Anchored) (j : ℕ) (s : Anchored) → slice_get ss j ≡ Some s → s.anchor ≡ high → key_cmp low high ≡ Less
    → passed low ss + 1 ≤ passed high ss
passed-more low high [] j s at is lt = absurd cc
passed-more low high (x ∷ ss) zero s at is lt =
    let here : x.anchor ≡ high = ap (λ (a : Anchored). a.anchor) (some_injective x s at) ∙ is in
    subst (λ (k : List ℕ). (cond (is_lt (key_cmp low k)) 0 1 + passed low ss) + 1 ≤ cond (is_lt (key_cmp high k)) 0 1 + passed high ss) (sym here)
    (first (is_lt (key_cmp low high)) (is_lt (key_cmp high high)) (ap is_lt lt) (ap is_lt (key_cmp-same high)) (passed-up low high ss lt))
  where
    first : (b c : Bool) → b ≡ true → c ≡ false → passed low ss ≤ passed high ss → (cond b 0 1 + passed low ss) + 1 ≤ cond c 0 1 + passed high ss
    first true false e f h = omega arith
    first true true e f h = absurd cc
    first false c e f h = absurd cc
passed-more low high (x ∷ ss) (suc j) s at is lt =
    let one = passed-one low high x.anchor lt _ _ refl refl in
    let rest = passed-more low high ss j s at is lt in
    omega arith
