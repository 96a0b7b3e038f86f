-- Whether keys rise, seen at neighbours. To know: run_rises, rises-next.
use Rattle.std.proofs.Common.{◌≡◌, ℕ, zero, suc, ◌+◌, ◌<◌, ◌≤◌, true, false, List, [], ◌∷◌, ◌++◌, length, take, get_or, refl, sym, ap, subst, ◌∙◌, arith}
use Rattle.std.specs.Prelude.{slice_get, Some}
use Rattle.std.specs.Ordering.{is_lt}
use Rattle.std.specs.declared.cmp.Ordering.TheVariants.{Less}
use Rattle.std.proofs.lemmas.Option.{slice_get_read}
use Rattle.std.proofs.lemmas.List.{take_all}
use Rattle.rdb_base.specs.Order.{key_cmp}
use Rattle.rdb_base.specs.Runs.{IsRun}
use Rattle.rdb_base.specs.declared.pair.Pair.{Pair}
use Rattle.rdb_base.proofs.KeyOrder.{less_from_test}
use Rattle.rdb_base.proofs.RunLemmas.{IsRun-push, AreBelow-last}
use Rattle.remix_view.proofs.Lists.{some_same}

-- the next key of a run is above
pub run_rises : (pairs : List Pair) (i : ℕ) (p o : Pair) → IsRun pairs → slice_get pairs i ≡ Some p → slice_get pairs (suc i) ≡ Some o → key_cmp p.key o.key ≡ Less
run_rises [] i p o rises e f = absurd cc
run_rises (x ∷ []) zero p o rises e f = absurd cc
run_rises (x ∷ (y ∷ xs)) zero p o rises e f = (λ i. key_cmp (sym (some_same x p e) i).key (sym (some_same y o f) i).key) ∙ rises.0.0
run_rises (x ∷ xs) (suc i) p o rises e f = run_rises xs i p o rises.1 e f

take_one_more : (pairs : List Pair) (i : ℕ) (p : Pair) → slice_get pairs i ≡ Some p → take (suc i) pairs ≡ take i pairs ++ p ∷ []
take_one_more [] i p e = absurd cc
take_one_more (x ∷ xs) zero p e = ap (λ (y : Pair). y ∷ []) (some_same x p e)
take_one_more (x ∷ xs) (suc i) p e = ap (λ (ys : List Pair). x ∷ ys) (take_one_more xs i p e)

-- one key more that is above the one before
rises_more : (pairs : List Pair) (i : ℕ) (p o : Pair) → slice_get pairs i ≡ Some p → slice_get pairs (suc i) ≡ Some o → key_cmp p.key o.key ≡ Less → IsRun (take (suc i) pairs) → IsRun (take (suc (suc i)) pairs)
rises_more pairs i p o e f less rises =
    let run : IsRun (take i pairs ++ p ∷ []) = subst IsRun (take_one_more pairs i p e) rises in
    let above = AreBelow-last (take i pairs) p o.key run less in
    subst IsRun (sym (take_one_more pairs (suc i) o f ∙ ap (λ (ps : List Pair). ps ++ o ∷ []) (take_one_more pairs i p e))) (IsRun-push (take i pairs ++ p ∷ []) o run above)

-- a pair that was read at a place before the end
read_at : (pairs : List Pair) (i : ℕ) (p : Pair) → i < length pairs → p ≡ get_or pairs i p → slice_get pairs i ≡ Some p
read_at pairs i p lt e = slice_get_read pairs (length pairs) i p refl lt e

pub rises-next : (pairs : List Pair) (at before : ℕ) (p o : Pair) → at ≡ before + 1 → at < length pairs → p ≡ get_or pairs before p → o ≡ get_or pairs at o → is_lt (key_cmp p.key o.key) ≡ true → IsRun (take at pairs) → IsRun (take (at + 1) pairs)
rises-next pairs at before p o e lt read other less rises =
    subst (λ (n : ℕ). IsRun (take n pairs)) (later at before e)
    (rises_more pairs before p o (read_at pairs before p (omega arith) read) (ap (slice_get pairs) (sym (next at before e)) ∙ read_at pairs at o lt other) (less_from_test (key_cmp p.key o.key) less) (subst (λ (n : ℕ). IsRun (take n pairs)) (next at before e) rises))
  where
    next : (a b : ℕ) → a ≡ b + 1 → a ≡ suc b
    next a b e = omega arith

    later : (a b : ℕ) → a ≡ b + 1 → suc (suc b) ≡ a + 1
    later a b e = omega arith

pub rises-broken : (pairs : List Pair) (at before : ℕ) (p o : Pair) → at ≡ before + 1 → at < length pairs → p ≡ get_or pairs before p → o ≡ get_or pairs at o → is_lt (key_cmp p.key o.key) ≡ false → IsRun pairs → ⊥
rises-broken pairs at before p o e lt read other above rises =
    let less = run_rises pairs before p o rises (read_at pairs before p (omega arith) read) (ap (slice_get pairs) (sym (next at before e)) ∙ read_at pairs at o lt other) in
    let clash = sym (ap is_lt less) ∙ above in
    absurd cc
  where
    next : (a b : ℕ) → a ≡ b + 1 → a ≡ suc b
    next a b e = omega arith

pub rises-all : (pairs : List Pair) (n : ℕ) → length pairs ≤ n → IsRun (take n pairs) → IsRun pairs
rises-all pairs n h rises = subst IsRun (take_all n pairs h) rises

pub rises-first : (pairs : List Pair) → IsRun (take 1 pairs)
rises-first [] = tt
rises-first (x ∷ xs) = (tt, tt)
