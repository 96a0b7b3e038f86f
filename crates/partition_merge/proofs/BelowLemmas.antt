-- Keys that are found to be below one. To know: below-next.
use Rattle.std.proofs.Common.{◌≡◌, ℕ, zero, suc, ◌+◌, ◌<◌, true, List, [], ◌∷◌, ◌++◌, length, take, get_or, sym, ap, subst, arith}
use Rattle.std.specs.Prelude.{slice_get, Some}
use Rattle.std.specs.Ordering.{is_lt}
use Rattle.std.specs.declared.cmp.Ordering.TheVariants.{Less}
use Rattle.rdb_base.specs.Order.{key_cmp}
use Rattle.rdb_base.specs.Runs.{AreBelow}
use Rattle.rdb_base.specs.declared.pair.Pair.{Pair}
use Rattle.rdb_base.proofs.KeyOrder.{less_from_test}
use Rattle.rdb_base.proofs.Lists.{all-append}
use Rattle.remix_view.proofs.Lists.{some_same}
use Rattle.partition_merge.proofs.PlaceLemmas.{get-read}

take-next : (pairs : List Pair) (i : ℕ) (p : Pair) → slice_get pairs i ≡ Some p → take (suc i) pairs ≡ take i pairs ++ p ∷ []
take-next [] i p e = absurd cc
take-next (x ∷ xs) zero p e = ap (λ (y : Pair). y ∷ []) (some_same x p e)
take-next (x ∷ xs) (suc i) p e = ap (λ (ys : List Pair). x ∷ ys) (take-next xs i p e)

-- one key more that is below
pub below-next : (key : List ℕ) (pairs : List Pair) (at : ℕ) (p : Pair) → at < length pairs → p ≡ get_or pairs at p → is_lt (key_cmp p.key key) ≡ true → AreBelow (take at pairs) key → AreBelow (take (at + 1) pairs) key
below-next key pairs at p lt read below all =
    subst (λ (n : ℕ). AreBelow (take n pairs) key) (later at)
    (subst (λ (ps : List Pair). AreBelow ps key) (sym (take-next pairs at p (get-read pairs at p lt read)))
    (all-append (λ (q : Pair). key_cmp q.key key ≡ Less) (take at pairs) (p ∷ []) all (less_from_test (key_cmp p.key key) below, tt)))
  where
    later : (n : ℕ) → suc n ≡ n + 1
    later n = omega arith
