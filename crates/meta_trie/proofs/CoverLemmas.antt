-- The fold over the anchors gives the greatest one that is not above the key. To know: `cover-is`, `best_of-is`, `better-is`.
use Rattle.std.proofs.Common.{◌≡◌, ℕ, zero, suc, cond, ◌&&◌, List, [], ◌∷◌, refl, sym, ap, ◌∙◌, subst, ◌⊎◌, inl, inr}
use Rattle.std.specs.Prelude.{Some, slice_get}
use Rattle.std.specs.Ordering.{is_lt, is_le}
use Rattle.std.specs.declared.cmp.Ordering.{Ordering}
use Rattle.std.specs.declared.cmp.Ordering.TheVariants.{Less, Equal, Greater}
use Rattle.rdb_base.specs.Order.{key_cmp}
use Rattle.rdb_base.proofs.KeyOrder.{same_key, turned_greater}
use Rattle.meta_trie.specs.Tries.{Anchored, root, better, best_of, cover}
use Rattle.meta_trie.specs.Nodes.{Pick, AtMost, Best}
use Rattle.meta_trie.proofs.PrefixLemmas.{at_most-trans, at_most-both, not-below}
use Rattle.rdb_base.proofs.PlaceLemmas.{some_injective}

-- what the better one of two is
pub record Better (key : List ℕ) (best next found : Anchored) : Type 0 where
  pub one : (found ≡ best) ⊎ (found ≡ next)
  pub fits : AtMost found.anchor key
  pub mine : AtMost best.anchor found.anchor
  pub theirs : AtMost next.anchor key → AtMost next.anchor found.anchor

pub better-is : (key : List ℕ) (best next : Anchored) → AtMost best.anchor key → Better key best next (better key best next)
better-is key best next fits = by (key_cmp next.anchor key) refl (key_cmp best.anchor next.anchor) refl
  where
    kept : (AtMost next.anchor key → AtMost next.anchor best.anchor) → Better key best next best
    kept f = record { one = inl refl; fits = fits; mine = inr refl; theirs = f }

    by : (r : Ordering) → key_cmp next.anchor key ≡ r → (s : Ordering) → key_cmp best.anchor next.anchor ≡ s → Better key best next (cond (is_le r && is_lt s) next best)
    by Greater e s f = kept (λ h. absurd (not-below next.anchor key h (turned_greater next.anchor key e)))
    by Less e Less f = record { one = inr refl; fits = inl e; mine = inl f; theirs = λ h. inr refl }
    by Less e Equal f = kept (λ h. inr (sym (same_key best.anchor next.anchor f)))
    by Less e Greater f = kept (λ h. inl (turned_greater best.anchor next.anchor f))
    by Equal e Less f = record { one = inr refl; fits = inr (same_key next.anchor key e); mine = inl f; theirs = λ h. inr refl }
    by Equal e Equal f = kept (λ h. inr (sym (same_key best.anchor next.anchor f)))
    by Equal e Greater f = kept (λ h. inl (turned_greater best.anchor next.anchor f))

pub best_of-is : (key : List ℕ) (best : Anchored) (more : List Anchored) → AtMost best.anchor key → (i : ℕ) × Best (best ∷ more) key i (best_of key best more)
best_of-is key best [] fits = (0, record { pick = refl; fits = fits; best = only })
  where
    only : (j : ℕ) (b : Anchored) → Pick (best ∷ []) j b → AtMost b.anchor key → AtMost b.anchor best.anchor
    only zero b e h = inr (ap (λ (x : Anchored). x.anchor) (sym (some_injective best b e)))
    only (suc j) b e h = absurd cc
best_of-is key best (next ∷ more) fits = by (better key best next) (better-is key best next fits) (best_of-is key (better key best next) more (better-is key best next fits).fits)
  where
    by : (found : Anchored) → Better key best next found → (i : ℕ) × Best (found ∷ more) key i (best_of key found more) → (i : ℕ) × Best (best ∷ next ∷ more) key i (best_of key found more)
    by found is rest = (there.0, record { pick = there.1; fits = rest.1.fits; best = all })
      where
        got : Anchored
        got = best_of key found more

        place : (found ≡ best) ⊎ (found ≡ next) → (i : ℕ) → Pick (found ∷ more) i got → (j : ℕ) × Pick (best ∷ next ∷ more) j got
        place (inl e) zero p = (0, ap Some (sym e) ∙ p)
        place (inr e) zero p = (1, ap Some (sym e) ∙ p)
        place one (suc i) p = (suc (suc i), p)

        there : (j : ℕ) × Pick (best ∷ next ∷ more) j got
        there = place is.one rest.0 rest.1.pick

        top : AtMost found.anchor got.anchor
        top = rest.1.best 0 found refl is.fits

        all : (j : ℕ) (b : Anchored) → Pick (best ∷ next ∷ more) j b → AtMost b.anchor key → AtMost b.anchor got.anchor
        all zero b e h = at_most-trans b.anchor found.anchor got.anchor (subst (λ (x : Anchored). AtMost x.anchor found.anchor) (some_injective best b e) is.mine) top
        all (suc zero) b e h =
            let same : next ≡ b = some_injective next b e in
            at_most-trans b.anchor found.anchor got.anchor (subst (λ (x : Anchored). AtMost x.anchor found.anchor) same (is.theirs (subst (λ (x : Anchored). AtMost x.anchor key) (sym same) h))) top
        all (suc (suc j)) b e h = rest.1.best (suc j) b e h

-- an anchor that is the greatest one not above the key is the one that the fold finds
pub cover-is : (added : List Anchored) (key : List ℕ) (i : ℕ) (a : Anchored)
    → ((i j : ℕ) (a b : Anchored) → Pick (root ∷ added) i a → Pick (root ∷ added) j b → a.anchor ≡ b.anchor → i ≡ j)
    → Best (root ∷ added) key i a → cover added key ≡ a.leaf
cover-is added key i a distinct is =
    let found = best_of-is key root added (first key) in
    let got : Anchored = best_of key root added in
    let mine : AtMost a.anchor got.anchor = found.1.best i a is.pick is.fits in
    let theirs : AtMost got.anchor a.anchor = is.best found.0 got found.1.pick found.1.fits in
    let place : found.0 ≡ i = distinct found.0 i got a found.1.pick is.pick (at_most-both got.anchor a.anchor theirs mine) in
    ap (λ (x : Anchored). x.leaf) (some_injective got a (sym found.1.pick ∙ ap (λ n. slice_get (root ∷ added) n) place ∙ is.pick))
  where
    first : (key : List ℕ) → AtMost [] key
    first [] = inr refl
    first (k ∷ key) = inl refl
