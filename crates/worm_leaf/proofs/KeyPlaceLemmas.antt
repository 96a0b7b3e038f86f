-- The place of a key among rising pairs. To know: `change_at-here`, `change_at-absent`, `with_pair-here`, `with_pair-absent`.
use Rattle.std.proofs.Common.{◌≡◌, ℕ, zero, suc, ◌<◌, true, false, List, [], ◌∷◌, ◌++◌, length, take, drop, get_or, set, refl, ap, ◌∙◌, arith}
use Rattle.std.specs.Prelude.{Some, None}
use Rattle.std.specs.Ordering.{is_lt, is_eq}
use Rattle.std.specs.declared.cmp.Ordering.{Ordering}
use Rattle.std.specs.declared.cmp.Ordering.TheVariants.{Less, Equal, Greater}
use Rattle.rdb_base.specs.Order.{key_cmp}
use Rattle.rdb_base.specs.Runs.{IsRun, change_at}
use Rattle.rdb_base.specs.Levels.{with_pair}
use Rattle.rdb_base.specs.Searches.{IsPlaceOf}
use Rattle.rdb_base.specs.declared.pair.Pair.{Pair}
use Rattle.rdb_base.proofs.KeyOrder.{turned_less, turned_greater, turned_equal, less_from_test, equal_from_test}
use Rattle.rdb_base.proofs.RunLemmas.{IsBelowAll-run}
use Rattle.rdb_base.proofs.ChangeLemmas.{change_at-below, change_at-rest}
use Rattle.rdb_base.proofs.MergeLemmas.{with_pair-front, with_pair-same, with_pair-after}
use Rattle.worm_leaf.specs.Leaves.{is_key_at}

-- the place among the pairs after the first
turn-rest : (p : Pair) (ps : List Pair) (key : List ℕ) (k : ℕ) → IsPlaceOf (p ∷ ps) key (suc k) → IsPlaceOf ps key k
turn-rest p ps key k h = record {
  inside = omega (arith, h.inside);
  before = λ i lt. h.before (suc i) (omega (arith, lt));
  after = λ i le lt. h.after (suc i) (omega (arith, le)) (omega (arith, lt));
}

-- the first key, as the place tells
first_below : (p : Pair) (ps : List Pair) (key : List ℕ) (k : ℕ) → IsPlaceOf (p ∷ ps) key (suc k) → key_cmp p.key key ≡ Less
first_below p ps key k h = less_from_test (key_cmp p.key key) (h.before 0 (omega arith))

first_above : (p : Pair) (ps : List Pair) (key : List ℕ) → IsPlaceOf (p ∷ ps) key 0 → is_eq (key_cmp p.key key) ≡ false → key_cmp p.key key ≡ Greater
first_above p ps key h ne = by (key_cmp p.key key) ne (h.after 0 (omega arith) (omega arith))
  where
    by : (r : Ordering) → is_eq r ≡ false → is_lt r ≡ false → r ≡ Greater
    by Less e f = absurd cc
    by Equal e f = absurd cc
    by Greater e f = refl

less_not_eq : (r : Ordering) → r ≡ Less → is_eq r ≡ false
less_not_eq r e = ap is_eq e

-- the pair of the key stands at the place
pub change_at-here : (run : List Pair) (key : List ℕ) (place : ℕ) (d : Pair) → IsRun run → IsPlaceOf run key place → is_key_at run key place ≡ true → change_at run key ≡ Some (get_or run place d).change
change_at-here [] key place d rises at is = absurd cc
change_at-here (p ∷ ps) key zero d rises at is = rw is refl
change_at-here (p ∷ ps) key (suc k) d rises at is =
    change_at-rest p ps key (less_not_eq (key_cmp p.key key) (first_below p ps key k at)) ∙ change_at-here ps key k d rises.1 (turn-rest p ps key k at) is

-- no pair has the key
pub change_at-absent : (run : List Pair) (key : List ℕ) (place : ℕ) → IsRun run → IsPlaceOf run key place → is_key_at run key place ≡ false → change_at run key ≡ None
change_at-absent [] key place rises at is = refl
change_at-absent (p ∷ ps) key zero rises at is =
    change_at-below key (p ∷ ps) (IsBelowAll-run key p ps rises (turned_greater p.key key (first_above p ps key at is)))
change_at-absent (p ∷ ps) key (suc k) rises at is =
    change_at-rest p ps key (less_not_eq (key_cmp p.key key) (first_below p ps key k at)) ∙ change_at-absent ps key k rises.1 (turn-rest p ps key k at) is

-- a pair of the same key takes the place
pub with_pair-here : (run : List Pair) (p : Pair) (place : ℕ) → IsRun run → IsPlaceOf run p.key place → is_key_at run p.key place ≡ true → with_pair run p ≡ set run place p
with_pair-here [] p place rises at is = absurd cc
with_pair-here (q ∷ qs) p zero rises at is = with_pair-same p q qs (turned_equal q.key p.key (equal_from_test (key_cmp q.key p.key) is)) rises.0
with_pair-here (q ∷ qs) p (suc k) rises at is =
    with_pair-after p q qs (turned_less q.key p.key (first_below q qs p.key k at)) ∙ ap (λ (rest : List Pair). q ∷ rest) (with_pair-here qs p k rises.1 (turn-rest q qs p.key k at) is)

-- a pair of a new key goes in at the place
pub with_pair-absent : (run : List Pair) (p : Pair) (place : ℕ) → IsRun run → IsPlaceOf run p.key place → is_key_at run p.key place ≡ false → with_pair run p ≡ take place run ++ p ∷ drop place run
with_pair-absent [] p zero rises at is = refl
with_pair-absent [] p (suc k) rises at is = absurd (omega (arith, at.inside))
with_pair-absent (q ∷ qs) p zero rises at is = with_pair-front p (q ∷ qs) (IsBelowAll-run p.key q qs rises (turned_greater q.key p.key (first_above q qs p.key at is)))
with_pair-absent (q ∷ qs) p (suc k) rises at is =
    with_pair-after p q qs (turned_less q.key p.key (first_below q qs p.key k at)) ∙ ap (λ (rest : List Pair). q ∷ rest) (with_pair-absent qs p k rises.1 (turn-rest q qs p.key k at) is)

-- the place of a key that is there is inside
pub place-inside : (run : List Pair) (key : List ℕ) (place : ℕ) → is_key_at run key place ≡ true → place < length run
place-inside [] key place is = absurd cc
place-inside (p ∷ ps) key zero is = omega arith
place-inside (p ∷ ps) key (suc k) is = omega (arith, place-inside ps key k is)

-- the key at the place
pub key-here : (run : List Pair) (key : List ℕ) (place : ℕ) (d : Pair) → is_key_at run key place ≡ true → key_cmp (get_or run place d).key key ≡ Equal
key-here [] key place d is = absurd cc
key-here (p ∷ ps) key zero d is = equal_from_test (key_cmp p.key key) is
key-here (p ∷ ps) key (suc k) d is = key-here ps key k d is
