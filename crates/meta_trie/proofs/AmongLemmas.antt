-- The greatest anchor that is not above a key, by a look at each. To know: `among-first`, `among-next`, `among-all`.
use Rattle.std.proofs.Common.{◌≡◌, ℕ, zero, suc, ◌+◌, ◌<◌, ◌≤◌, Bool, true, false, cond, List, [], ◌∷◌, length, get_or, refl, sym, ap, ◌∙◌, subst, arith, ◌⊎◌, inl, inr}
use Rattle.std.specs.Prelude.{Some, ◌&&◌}
use Rattle.std.specs.Ordering.{is_lt, is_le}
use Rattle.std.proofs.lemmas.Bool.{cases_lt}
use Rattle.rdb_base.specs.Order.{key_cmp}
use Rattle.rdb_base.proofs.PlaceLemmas.{some_injective}
use Rattle.meta_trie.specs.Tries.{Anchored, root}
use Rattle.meta_trie.specs.Leaves.{all_of, anchored, BeginsWithRoot, rest_of}
use Rattle.meta_trie.specs.Nodes.{Pick, AtMost, Best}
use Rattle.meta_trie.specs.declared.leaf_entry.LeafEntry.{LeafEntry}
use Rattle.meta_trie.proofs.CoverLemmas.{Better, better-is}
use Rattle.meta_trie.proofs.FindLemmas.{pick-in}
use Rattle.meta_trie.proofs.PrefixLemmas.{at_most-trans}

-- the greatest of the first so many anchors that is not above a key
pub record BestAmong (all : List Anchored) (key : List ℕ) (n i : ℕ) (a : Anchored) : Type 0 where
  pub pick : Pick all i a
  pub fits : AtMost a.anchor key
  pub best : (j : ℕ) (b : Anchored) → j < n → Pick all j b → AtMost b.anchor key → AtMost b.anchor a.anchor

-- of none it is the empty anchor
pub among-first : (all : List Anchored) (key : List ℕ) → BeginsWithRoot all → BestAmong all key 0 0 root
among-first [] key begins = absurd cc
among-first (a ∷ all) key begins = record {
  pick = ap Some (heads a root all (rest_of (a ∷ all)) begins);
  fits = empty key;
  best = λ j b lt. absurd (omega (arith, lt));
}
  where
    heads : (a b : Anchored) (xs ys : List Anchored) → a ∷ xs ≡ b ∷ ys → a ≡ b
    heads a b xs ys e = cc

    empty : (key : List ℕ) → AtMost [] key
    empty [] = inr refl
    empty (k ∷ key) = inl refl

-- the entry at a place
pub pick-here : (leaves : List LeafEntry) (i : ℕ) (d : LeafEntry) → i < length leaves → Pick (all_of leaves) i (anchored (get_or leaves i d))
pick-here [] i d lt = absurd (omega arith)
pick-here (x ∷ xs) zero d lt = refl
pick-here (x ∷ xs) (suc i) d lt = pick-here xs i d (omega arith)

-- of one more it is the better one of two
step : (all : List Anchored) (key : List ℕ) (n i k : ℕ) (a b found : Anchored) → BestAmong all key n i a → Pick all n b → Better key a b found → Pick all k found
    → BestAmong all key (n + 1) k found
step all key n i k a b found old here is pick = record { pick = pick; fits = is.fits; best = best }
  where
    best : (j : ℕ) (c : Anchored) → j < n + 1 → Pick all j c → AtMost c.anchor key → AtMost c.anchor found.anchor
    best j c lt at fits = by (cases_lt j n)
      where
        by : (j < n) ⊎ (n ≤ j) → AtMost c.anchor found.anchor
        by (inl below) = at_most-trans c.anchor a.anchor found.anchor (old.best j c below at fits) is.mine
        by (inr not) =
            let same : j ≡ n = omega (arith, lt, not) in
            let one : b ≡ c = some_injective b c (sym here ∙ subst (λ (m : ℕ). Pick all m c) same at) in
            subst (λ (z : Anchored). AtMost z.anchor found.anchor) one (is.theirs (subst (λ (z : Anchored). AtMost z.anchor key) (sym one) fits))

pub among-next : (leaves : List LeafEntry) (key : List ℕ) (n i : ℕ) (d e : LeafEntry) (a : Anchored) → BestAmong (all_of leaves) key n i a → n < length leaves → (t : Bool)
    → (is_le (key_cmp (get_or leaves n d).anchor.items key) && is_lt (key_cmp (get_or leaves i e).anchor.items (get_or leaves n d).anchor.items)) ≡ t
    → (found : Anchored) × BestAmong (all_of leaves) key (n + 1) (cond t n i) found
among-next leaves key n i d e a old lt t is = by t (subst (λ (s : Bool). Better key a b (cond s b a)) test (better-is key a b old.fits))
  where
    b : Anchored
    b = anchored (get_or leaves n d)

    here : Pick (all_of leaves) n b
    here = pick-here leaves n d lt

    same : anchored (get_or leaves i e) ≡ a
    same = some_injective (anchored (get_or leaves i e)) a (sym (pick-here leaves i e (pick-in leaves i a old.pick)) ∙ old.pick)

    test : (is_le (key_cmp b.anchor key) && is_lt (key_cmp a.anchor b.anchor)) ≡ t
    test = ap (λ (z : Anchored). is_le (key_cmp b.anchor key) && is_lt (key_cmp z.anchor b.anchor)) (sym same) ∙ is

    by : (s : Bool) → Better key a b (cond s b a) → (found : Anchored) × BestAmong (all_of leaves) key (n + 1) (cond s n i) found
    by true is = (b, step (all_of leaves) key n i n a b b old here is here)
    by false is = (a, step (all_of leaves) key n i i a b a old here is old.pick)

-- of all it is the greatest
pub among-all : (leaves : List LeafEntry) (key : List ℕ) (n i : ℕ) → length leaves ≤ n → (a : Anchored) × BestAmong (all_of leaves) key n i a → (a : Anchored) × Best (all_of leaves) key i a
among-all leaves key n i le (a, is) = (a, record { pick = is.pick; fits = is.fits; best = λ j b at. is.best j b (omega (arith, le, pick-in leaves j b at)) at })
