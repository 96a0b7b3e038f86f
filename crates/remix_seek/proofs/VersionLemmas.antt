-- Versions of a sorted view below a key. To know: sorted_falls, SplitsAt, count_split, all_below_split, length-versions.
use Rattle.std.proofs.Common.{◌≡◌, ℕ, zero, suc, ◌+◌, ◌<◌, ◌≤◌, Bool, true, false, cond, List, [], ◌∷◌, length, take, refl, sym, ap, subst, ◌∙◌, arith}
use Rattle.std.specs.Prelude.{◌==◌, slice_get, Option, Some, None, filter, nat_le}
use Rattle.std.specs.List.{AllByRecursion, count_by, sum_by}
use Rattle.std.specs.Ordering.{is_lt}
use Rattle.std.specs.declared.cmp.Ordering.{Ordering}
use Rattle.std.specs.declared.cmp.Ordering.TheVariants.{Less, Equal, Greater}
use Rattle.std.proofs.lemmas.List.Sums.{sum_by-cons, length-filter}
use Rattle.std.proofs.lemmas.Bool.Decides.{nat_tests}
use Rattle.rdb_base.specs.Order.{key_cmp}
use Rattle.rdb_base.proofs.KeyOrder.{total, same_key}
use Rattle.rdb_base.specs.declared.pair.Pair.{Pair}
use Rattle.remix_seek.specs.Versions.{Version, IsSortedView, AreSorted, is_before, before_by, versions_in, run_at}
use Rattle.remix_seek.specs.Indexes.{below_in}
use Rattle.remix_seek.specs.Places.{all_below}
use Rattle.remix_seek.proofs.CountLemmas.{count-cons, count-yes, count-no, all-take, length-front}
use Rattle.remix_seek.proofs.UniqueLemmas.{same_number}

abbrev pub below_key : List ℕ → Version → Bool
below_key key v = is_lt (key_cmp v.pair.key key)

abbrev pub found_below : List ℕ → Option Version → Bool
found_below key None = false
found_below key (Some v) = below_key key v

abbrev pub below_there : List ℕ → List Version → ℕ → Bool
below_there key vs i = found_below key (slice_get vs i)

less_from_test : (r : Ordering) → is_lt r ≡ true → r ≡ Less
less_from_test Less h = refl
less_from_test Equal h = absurd cc
less_from_test Greater h = absurd cc

-- a version before one that is below the key is below it
pub before_below : (v w : Version) (key : List ℕ) → is_before v w ≡ true → below_key key w ≡ true → below_key key v ≡ true
before_below v w key before below = by_order (key_cmp v.pair.key w.pair.key) refl before
  where
    by_order : (r : Ordering) → key_cmp v.pair.key w.pair.key ≡ r → before_by r v.run w.run ≡ true → below_key key v ≡ true
    by_order Less e h = ap is_lt (total.trans v.pair.key w.pair.key key e (less_from_test (key_cmp w.pair.key key) below))
    by_order Equal e h = ap (λ (k : List ℕ). is_lt (key_cmp k key)) (same_key v.pair.key w.pair.key e) ∙ below
    by_order Greater e h = absurd cc

first_below : (v : Version) (vs : List Version) (key : List ℕ) (j : ℕ) → AllByRecursion (λ w. is_before v w ≡ true) vs → below_there key vs j ≡ true → below_key key v ≡ true
first_below v [] key j all is = absurd cc
first_below v (w ∷ ws) key zero all is = before_below v w key all.0 is
first_below v (w ∷ ws) key (suc j) all is = first_below v ws key j all.1 is

pub sorted_falls : (vs : List Version) (key : List ℕ) (i j : ℕ) → AreSorted vs → i ≤ j → below_there key vs j ≡ true → below_there key vs i ≡ true
sorted_falls [] key i j sorted le is = absurd cc
sorted_falls (v ∷ vs) key zero zero sorted le is = is
sorted_falls (v ∷ vs) key zero (suc j) sorted le is = first_below v vs key j sorted.0 is
sorted_falls (v ∷ vs) key (suc i) zero sorted le is = absurd (omega arith)
sorted_falls (v ∷ vs) key (suc i) (suc j) sorted le is = sorted_falls vs key i j sorted.1 (omega arith) is

-- the versions before a place are below the key, and those from it on are not
pub record SplitsAt (key : List ℕ) (vs : List Version) (place : ℕ) : Type 0 where
  pub inside : place ≤ length vs
  pub before : (i : ℕ) → i < place → below_there key vs i ≡ true
  pub after : (i : ℕ) → place ≤ i → below_there key vs i ≡ false

rest_splits : (key : List ℕ) (v : Version) (vs : List Version) (n : ℕ) → SplitsAt key (v ∷ vs) (suc n) → SplitsAt key vs n
rest_splits key v vs n s = record { inside = omega (arith, s.inside); before = λ i h. s.before (suc i) (omega arith); after = λ i h. s.after (suc i) (omega arith) }

none_splits : (key : List ℕ) (v : Version) (vs : List Version) → SplitsAt key (v ∷ vs) 0 → SplitsAt key vs 0
none_splits key v vs s = record { inside = omega arith; before = λ i h. absurd (omega arith); after = λ i h. s.after (suc i) (omega arith) }

pub count_split : (test : Version → Bool) (key : List ℕ) (vs : List Version) (n : ℕ) → SplitsAt key vs n → count_by (below_key key) (filter test vs) ≡ count_by test (take n vs)
count_split test key [] zero s = refl
count_split test key [] (suc n) s = absurd (omega (arith, s.inside))
count_split test key (v ∷ vs) zero s = by_test (test v) (count_split test key vs zero (none_splits key v vs s))
  where
    by_test : (b : Bool) → count_by (below_key key) (filter test vs) ≡ 0 → count_by (below_key key) (cond b (v ∷ filter test vs) (filter test vs)) ≡ 0
    by_test true rest = count-no (below_key key) v (filter test vs) (s.after 0 (omega arith)) ∙ rest
    by_test false rest = rest
count_split test key (v ∷ vs) (suc n) s = by_test (test v) refl (count_split test key vs n (rest_splits key v vs n s))
  where
    by_test : (b : Bool) → test v ≡ b → count_by (below_key key) (filter test vs) ≡ count_by test (take n vs) → count_by (below_key key) (cond b (v ∷ filter test vs) (filter test vs)) ≡ count_by test (v ∷ take n vs)
    by_test true e rest = count-yes (below_key key) v (filter test vs) (s.before 0 (omega arith)) ∙ ap (λ (k : ℕ). 1 + k) rest ∙ sym (count-yes test v (take n vs) e)
    by_test false e rest = rest ∙ sym (count-no test v (take n vs) e)

below_versions_in : (key : List ℕ) (run place : ℕ) (pairs : List Pair) → count_by (below_key key) (versions_in run place pairs) ≡ below_in key pairs
below_versions_in key run place [] = refl
below_versions_in key run place (p ∷ ps) =
    count-cons (below_key key) (record { run = run; place = place; pair = p }) (versions_in run (place + 1) ps)
    ∙ ap (λ (n : ℕ). cond (is_lt (key_cmp p.key key)) 1 0 + n) (below_versions_in key run (place + 1) ps)
    ∙ sym (count-cons (λ (pair : Pair). is_lt (key_cmp pair.key key)) p ps)

-- the keys of a run that are below the key stand before the place
pub below_of_run : (runs : List (List Pair)) (vs : List Version) (key : List ℕ) (n run : ℕ) → IsSortedView runs vs → SplitsAt key vs n → below_in key (run_at runs run) ≡ count_by (λ (v : Version). v.run == run) (take n vs)
below_of_run runs vs key n run view s =
    sym (below_versions_in key run 0 (run_at runs run))
    ∙ ap (count_by (below_key key)) (sym (view.all run))
    ∙ count_split (λ (v : Version). v.run == run) key vs n s

-- ---- the numbers of the runs

-- a run that has a version is there
run_there : (runs : List (List Pair)) (run : ℕ) (p : Pair) (ps : List Pair) → run_at runs run ≡ (p ∷ ps) → run < length runs
run_there [] run p ps e = absurd cc
run_there (r ∷ rs) zero p ps e = omega arith
run_there (r ∷ rs) (suc n) p ps e = let h = run_there rs n p ps e in omega arith

some_run : (runs : List (List Pair)) (run : ℕ) (v : Version) (rest : List Version) → (v ∷ rest) ≡ versions_in run 0 (run_at runs run) → run < length runs
some_run runs run v rest e = by_pairs (run_at runs run) refl
  where
    by_pairs : (pairs : List Pair) → run_at runs run ≡ pairs → run < length runs
    by_pairs [] h = absurd (let k : (v ∷ rest) ≡ [] = e ∙ ap (versions_in run 0) h in cc)
    by_pairs (p ∷ ps) h = run_there runs run p ps h

-- all but those of runs that are there
pub runs_below : (runs : List (List Pair)) (vs : List Version) → ((run : ℕ) → (v : Version) (rest : List Version) → filter (λ (u : Version). u.run == run) vs ≡ (v ∷ rest) → run < length runs) → AllByRecursion (λ (v : Version). v.run < length runs) vs
runs_below runs [] h = tt
runs_below runs (v ∷ vs) h = (h v.run v (filter (λ (u : Version). u.run == v.run) vs) (rw (same_number v.run) refl), runs_below runs vs (λ run u rest e. more run u rest e (v.run == run) refl))
  where
    more : (run : ℕ) (u : Version) (rest : List Version) → filter (λ (w : Version). w.run == run) vs ≡ (u ∷ rest) → (b : Bool) → (v.run == run) ≡ b → run < length runs
    more run u rest e true t = h run v (filter (λ (w : Version). w.run == run) vs) (rw t refl)
    more run u rest e false t = h run u rest (rw t e)

pub all_runs : (runs : List (List Pair)) (vs : List Version) → IsSortedView runs vs → AllByRecursion (λ (v : Version). v.run < length runs) vs
all_runs runs vs view = runs_below runs vs (λ run v rest e. some_run runs run v rest (sym e ∙ view.all run))

-- ---- the sum over all runs

from_on : (k : ℕ) (us : List Version) → count_by (λ (v : Version). nat_le k v.run) us ≡ count_by (λ (v : Version). v.run == k) us + count_by (λ (v : Version). nat_le (k + 1) v.run) us
from_on k [] = refl
from_on k (u ∷ us) =
    count-cons (λ (v : Version). nat_le k v.run) u us
    ∙ one (cond (nat_le k u.run) 1 0) (cond (u.run == k) 1 0) (cond (nat_le (k + 1) u.run) 1 0) (count_by (λ (v : Version). nat_le k v.run) us) (count_by (λ (v : Version). v.run == k) us) (count_by (λ (v : Version). nat_le (k + 1) v.run) us) (from_on k us) (tests k u.run (nat_le k u.run) (u.run == k) (nat_le (k + 1) u.run) refl refl refl)
    ∙ (λ i. sym (count-cons (λ (v : Version). v.run == k) u us) i + sym (count-cons (λ (v : Version). nat_le (k + 1) v.run) u us) i)
  where
    one : (a b c x y z : ℕ) → x ≡ y + z → a ≡ b + c → a + x ≡ (b + y) + (c + z)
    one a b c x y z e h = omega arith

    tests : (k n : ℕ) (a b c : Bool) → nat_le k n ≡ a → (n == k) ≡ b → nat_le (k + 1) n ≡ c → cond a 1 0 ≡ cond b 1 0 + cond c 1 0
    tests k n true true true e f g = absurd (grind (arith, nat_tests))
    tests k n true true false e f g = refl
    tests k n true false true e f g = refl
    tests k n true false false e f g = absurd (grind (arith, nat_tests))
    tests k n false true true e f g = absurd (grind (arith, nat_tests))
    tests k n false true false e f g = absurd (grind (arith, nat_tests))
    tests k n false false true e f g = absurd (grind (arith, nat_tests))
    tests k n false false false e f g = refl

none_from : (k : ℕ) (us : List Version) → AllByRecursion (λ (v : Version). v.run < k) us → count_by (λ (v : Version). nat_le k v.run) us ≡ 0
none_from k [] all = refl
none_from k (u ∷ us) all = count-no (λ (v : Version). nat_le k v.run) u us (low all.0) ∙ none_from k us all.1
  where
    low : u.run < k → nat_le k u.run ≡ false
    low h = grind (arith, nat_tests)

all_from : (k : ℕ) (us : List Version) → k ≡ 0 → count_by (λ (v : Version). nat_le k v.run) us ≡ length us
all_from k [] e = refl
all_from k (u ∷ us) e = count-yes (λ (v : Version). nat_le k v.run) u us (grind (arith, nat_tests)) ∙ (let h = all_from k us e in omega arith)

sum_runs : (f : List Pair → ℕ) (rs : List (List Pair)) (k n : ℕ) (us : List Version) → k + length rs ≡ n → ((r : ℕ) → r < length rs → f (run_at rs r) ≡ count_by (λ (v : Version). v.run == k + r) us) → AllByRecursion (λ (v : Version). v.run < n) us → sum_by f rs ≡ count_by (λ (v : Version). nat_le k v.run) us
sum_runs f [] k n us e h all = sym (none_from k us (subst (λ (m : ℕ). AllByRecursion (λ (v : Version). v.run < m) us) (sym e ∙ omega arith) all))
sum_runs f (r ∷ rs) k n us e h all =
    sum_by-cons f r rs
    ∙ (λ i. first i + sum_runs f rs (k + 1) n us (omega (arith, e)) later all i)
    ∙ sym (from_on k us)
  where
    first : f r ≡ count_by (λ (v : Version). v.run == k) us
    first = h 0 (omega arith) ∙ ap (λ (m : ℕ). count_by (λ (v : Version). v.run == m) us) (omega arith)

    later : (q : ℕ) → q < length rs → f (run_at rs q) ≡ count_by (λ (v : Version). v.run == (k + 1) + q) us
    later q lt = h (suc q) (omega arith) ∙ ap (λ (m : ℕ). count_by (λ (v : Version). v.run == m) us) (omega arith)

-- just the keys below stand before the place
pub all_below_split : (runs : List (List Pair)) (vs : List Version) (key : List ℕ) (n : ℕ) → IsSortedView runs vs → SplitsAt key vs n → all_below key runs ≡ n
all_below_split runs vs key n view s =
    sum_runs (below_in key) runs 0 (length runs) (take n vs) (omega arith)
    (λ r lt. below_of_run runs vs key n r view s ∙ ap (λ (m : ℕ). count_by (λ (v : Version). v.run == m) (take n vs)) (omega arith))
    (all-take (λ (v : Version). v.run < length runs) n vs (all_runs runs vs view))
    ∙ all_from 0 (take n vs) refl
    ∙ length-front n vs s.inside

length_in : (run start : ℕ) (pairs : List Pair) → length (versions_in run start pairs) ≡ length pairs
length_in run start [] = refl
length_in run start (x ∷ xs) = let e = length_in run (start + 1) xs in omega arith

-- there are as many versions as pairs
pub length-versions : (runs : List (List Pair)) (vs : List Version) → IsSortedView runs vs → sum_by (λ (run : List Pair). length run) runs ≡ length vs
length-versions runs vs view =
    sum_runs (λ (run : List Pair). length run) runs 0 (length runs) vs (omega arith)
    (λ r lt. of_run r ∙ ap (λ (m : ℕ). count_by (λ (v : Version). v.run == m) vs) (omega arith))
    (all_runs runs vs view)
    ∙ all_from 0 vs refl
  where
    of_run : (r : ℕ) → length (run_at runs r) ≡ count_by (λ (v : Version). v.run == r) vs
    of_run r = sym (length_in r 0 (run_at runs r)) ∙ ap length (sym (view.all r)) ∙ length-filter (λ (v : Version). v.run == r) vs
