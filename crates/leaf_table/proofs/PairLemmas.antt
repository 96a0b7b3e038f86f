-- The pairs of leaves side by side, where one leaf covers a key. To know: `change_at-between`, `with_pair-between`.
use Rattle.std.proofs.Common.{◌≡◌, ℕ, Bool, true, false, List, [], ◌∷◌, ◌++◌, refl, sym, ap, ◌∙◌, append_assoc}
use Rattle.std.specs.Prelude.{Some, None, filter, if◌then◌else◌}
use Rattle.std.specs.Ordering.{is_lt, is_gt, is_eq}
use Rattle.std.proofs.lemmas.List.{append-nil}
use Rattle.rdb_base.specs.Order.{key_cmp}
use Rattle.rdb_base.specs.Runs.{IsBelowAll, AreBelow, change_at}
use Rattle.rdb_base.specs.Levels.{pairs_below, pairs_above, with_pair, or_change}
use Rattle.rdb_base.specs.declared.pair.Pair.{Pair}
use Rattle.rdb_base.proofs.ChangeLemmas.{change_at-below, change_at-append, or_change-none}
use Rattle.rdb_base.proofs.MergeLemmas.{pairs_below-none, pairs_above-all}
use Rattle.worm_leaf.specs.Leaves.{LeafState}
use Rattle.leaf_table.specs.Chains.{pairs_of}

pub pairs_of-append : (xs ys : List LeafState) → pairs_of (xs ++ ys) ≡ pairs_of xs ++ pairs_of ys
pairs_of-append [] ys = refl
pairs_of-append (leaf ∷ xs) ys = ap (λ (rest : List Pair). leaf.pairs ++ rest) (pairs_of-append xs ys) ∙ sym (append_assoc leaf.pairs (pairs_of xs) (pairs_of ys))

-- no pair that is below the key has it
change_at-past : (key : List ℕ) (pairs : List Pair) → AreBelow pairs key → change_at pairs key ≡ None
change_at-past key [] h = refl
change_at-past key (p ∷ pairs) h = ap (λ r. if is_eq r then Some p.change else change_at pairs key) h.0 ∙ change_at-past key pairs h.1

-- the change at a key stands among the pairs between those below it and those above it
pub change_at-between : (key : List ℕ) (lower pairs higher : List Pair) → AreBelow lower key → IsBelowAll key higher → change_at (lower ++ (pairs ++ higher)) key ≡ change_at pairs key
change_at-between key lower pairs higher below above =
    change_at-append lower (pairs ++ higher) key
    ∙ ap (λ o. or_change o (change_at (pairs ++ higher) key)) (change_at-past key lower below)
    ∙ change_at-append pairs higher key
    ∙ ap (λ o. or_change (change_at pairs key) o) (change_at-below key higher above)
    ∙ or_change-none (change_at pairs key)

pairs_below-all : (key : List ℕ) (pairs : List Pair) → AreBelow pairs key → pairs_below key pairs ≡ pairs
pairs_below-all key [] h = refl
pairs_below-all key (p ∷ pairs) h = ap (λ r. if is_lt r then p ∷ pairs_below key pairs else pairs_below key pairs) h.0 ∙ ap (λ rest. p ∷ rest) (pairs_below-all key pairs h.1)

pairs_above-none : (key : List ℕ) (pairs : List Pair) → AreBelow pairs key → pairs_above key pairs ≡ []
pairs_above-none key [] h = refl
pairs_above-none key (p ∷ pairs) h = ap (λ r. if is_gt r then p ∷ pairs_above key pairs else pairs_above key pairs) h.0 ∙ pairs_above-none key pairs h.1

filter-join : (test : Pair → Bool) (xs ys : List Pair) → filter test (xs ++ ys) ≡ filter test xs ++ filter test ys
filter-join test [] ys = refl
filter-join test (x ∷ xs) ys = by (test x) (filter-join test xs ys)
  where
    by : (b : Bool) → filter test (xs ++ ys) ≡ filter test xs ++ filter test ys
        → (if b then x ∷ filter test (xs ++ ys) else filter test (xs ++ ys)) ≡ (if b then x ∷ filter test xs else filter test xs) ++ filter test ys
    by true e = ap (λ rest. x ∷ rest) e
    by false e = e

-- a pair goes among those between the ones below it and the ones above it
pub with_pair-between : (pair : Pair) (lower pairs higher : List Pair) → AreBelow lower pair.key → IsBelowAll pair.key higher
    → with_pair (lower ++ (pairs ++ higher)) pair ≡ lower ++ (with_pair pairs pair ++ higher)
with_pair-between pair lower pairs higher below above =
    let key = pair.key in
    let low : pairs_below key (lower ++ (pairs ++ higher)) ≡ lower ++ pairs_below key pairs =
    filter-join (λ (p : Pair). is_lt (key_cmp p.key key)) lower (pairs ++ higher)
    ∙ ap (λ xs. xs ++ pairs_below key (pairs ++ higher)) (pairs_below-all key lower below)
    ∙ ap (λ xs. lower ++ xs) (filter-join (λ (p : Pair). is_lt (key_cmp p.key key)) pairs higher ∙ ap (λ xs. pairs_below key pairs ++ xs) (pairs_below-none key higher above) ∙ append-nil (pairs_below key pairs)) in
    let high : pairs_above key (lower ++ (pairs ++ higher)) ≡ pairs_above key pairs ++ higher =
    filter-join (λ (p : Pair). is_gt (key_cmp p.key key)) lower (pairs ++ higher)
    ∙ ap (λ xs. xs ++ pairs_above key (pairs ++ higher)) (pairs_above-none key lower below)
    ∙ filter-join (λ (p : Pair). is_gt (key_cmp p.key key)) pairs higher
    ∙ ap (λ xs. pairs_above key pairs ++ xs) (pairs_above-all key higher above) in
    ap (λ xs. xs ++ pair ∷ pairs_above key (lower ++ (pairs ++ higher))) low
    ∙ ap (λ xs. (lower ++ pairs_below key pairs) ++ pair ∷ xs) high
    ∙ append_assoc lower (pairs_below key pairs) (pair ∷ (pairs_above key pairs ++ higher))
    ∙ ap (λ xs. lower ++ xs) (sym (append_assoc (pairs_below key pairs) (pair ∷ pairs_above key pairs) higher))
