-- Two runs with the same change at each key are one run. To know: `run_ext`.
use Rattle.std.proofs.Common.{◌≡◌, ℕ, List, [], ◌∷◌, Some, None, refl, sym, ap, ◌∙◌}
use Rattle.std.specs.Ordering.{is_eq}
use Rattle.std.specs.declared.cmp.Ordering.{Ordering}
use Rattle.std.specs.declared.cmp.Ordering.TheVariants.{Less, Equal, Greater}
use Rattle.rdb_base.specs.Order.{key_cmp}
use Rattle.rdb_base.specs.Runs.{IsRun, change_at}
use Rattle.rdb_base.specs.declared.pair.Pair.{Pair}
use Rattle.rdb_base.proofs.KeyOrder.{turned_greater, same_key}
use Rattle.rdb_base.proofs.RunLemmas.{IsBelowAll-run}
use Rattle.rdb_base.proofs.ChangeLemmas.{change_at-below, change_at-first, change_at-rest}

some_none : {A : Type 0} (a : A) → Some a ≡ None → ⊥
some_none a e = absurd cc

some_same : {A : Type 0} (a b : A) → Some a ≡ Some b → a ≡ b
some_same a b e = cc

-- two runs with the same change at each key are one
pub run_ext : (xs ys : List Pair) → IsRun xs → IsRun ys → ((key : List ℕ) → change_at xs key ≡ change_at ys key) → xs ≡ ys
run_ext [] [] rx ry h = refl
run_ext [] (y ∷ ys) rx ry h = absurd (some_none y.change (sym (change_at-first y ys) ∙ sym (h y.key)))
run_ext (x ∷ xs) [] rx ry h = absurd (some_none x.change (sym (change_at-first x xs) ∙ h x.key))
run_ext (x ∷ xs) (y ∷ ys) rx ry h = by_order (λ same. run_ext xs ys rx.1 ry.1 same) (key_cmp x.key y.key) refl
  where
    tails : x.key ≡ y.key → (key : List ℕ) (r : Ordering) → key_cmp x.key key ≡ r → change_at xs key ≡ change_at ys key
    tails e key Less t = sym (change_at-rest x xs key (ap is_eq t)) ∙ h key ∙ change_at-rest y ys key (ap (λ (k : List ℕ). is_eq (key_cmp k key)) (sym e) ∙ ap is_eq t)
    tails e key Greater t = sym (change_at-rest x xs key (ap is_eq t)) ∙ h key ∙ change_at-rest y ys key (ap (λ (k : List ℕ). is_eq (key_cmp k key)) (sym e) ∙ ap is_eq t)
    tails e key Equal t = ap (change_at xs) (sym (same_key x.key key t)) ∙ change_at-below x.key xs rx.0 ∙ sym (change_at-below y.key ys ry.0) ∙ ap (change_at ys) (sym e ∙ same_key x.key key t)

    joined : x.key ≡ y.key → x.change ≡ y.change → xs ≡ ys → (x ∷ xs) ≡ (y ∷ ys)
    joined key change rest = λ i. record { key = key i; change = change i } ∷ rest i

    by_order : (((key : List ℕ) → change_at xs key ≡ change_at ys key) → xs ≡ ys) → (r : Ordering) → key_cmp x.key y.key ≡ r → (x ∷ xs) ≡ (y ∷ ys)
    by_order rest Less e = absurd (some_none x.change (sym (change_at-first x xs) ∙ h x.key ∙ change_at-below x.key (y ∷ ys) (IsBelowAll-run x.key y ys ry e)))
    by_order rest Greater e = absurd (some_none y.change (sym (change_at-first y ys) ∙ sym (h y.key) ∙ change_at-below y.key (x ∷ xs) (IsBelowAll-run y.key x xs rx (turned_greater x.key y.key e))))
    by_order rest Equal e =
        joined (same_key x.key y.key e)
        (some_same x.change y.change (sym (change_at-first x xs) ∙ h x.key ∙ ap (change_at (y ∷ ys)) (same_key x.key y.key e) ∙ change_at-first y ys))
        (rest (λ key. tails (same_key x.key y.key e) key (key_cmp x.key key) refl))
