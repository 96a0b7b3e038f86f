-- The newest versions of a sorted view are the level of its runs. To know: newest_is_level, in_level, listed.
use Rattle.std.proofs.Common.{◌≡◌, ℕ, zero, suc, ◌+◌, ◌<◌, ◌≤◌, Bool, true, false, cond, List, [], ◌∷◌, length, drop, refl, sym, ap, subst, ◌∙◌, arith}
use Rattle.std.specs.Prelude.{◌==◌, slice_get, Option, Some, None, filter, nat_le, not}
use Rattle.std.specs.List.{AllByRecursion, count_by}
use Rattle.std.specs.Ordering.{is_lt, is_gt, is_eq}
use Rattle.std.specs.declared.cmp.Ordering.{Ordering}
use Rattle.std.specs.declared.cmp.Ordering.TheVariants.{Less, Equal, Greater}
use Rattle.std.proofs.lemmas.Bool.Decides.{nat_tests}
use Rattle.rdb_base.specs.Order.{key_cmp}
use Rattle.rdb_base.specs.declared.change.Change.{Change}
use Rattle.rdb_base.proofs.KeyOrder.{total, same_key, key_cmp-same}
use Rattle.rdb_base.proofs.Lists.{all-weaker}
use Rattle.rdb_base.specs.declared.pair.Pair.{Pair}
use Rattle.rdb_base.specs.Runs.{IsRun, change_at, IsBelowAll}
use Rattle.rdb_base.specs.Levels.{level_of, or_change}
use Rattle.remix_seek.specs.Versions.{Version, IsSortedView, AreSorted, is_before, before_by, versions_in, run_at, has_key, newest_of, key_before, change_there}
use Rattle.remix_seek.specs.Places.{all_below}
use Rattle.remix_seek.proofs.CountLemmas.{count-yes, count-none}
use Rattle.rdb_base.proofs.RunLemmas.{IsRun-level_of}
use Rattle.rdb_base.proofs.ChangeLemmas.{change_at-over}
use Rattle.rdb_base.proofs.RunEqualityLemmas.{run_ext}
use Rattle.remix_seek.proofs.VersionLemmas.{SplitsAt, below_key, below_there, sorted_falls, all_runs, all_below_split}

-- ---- the newest versions are a run

not_above : (v w : Version) → is_before v w ≡ true → is_gt (key_cmp v.pair.key w.pair.key) ≡ false
not_above v w before = by_order (key_cmp v.pair.key w.pair.key) before
  where
    by_order : (r : Ordering) → before_by r v.run w.run ≡ true → is_gt r ≡ false
    by_order Less h = refl
    by_order Equal h = refl
    by_order Greater h = absurd cc

none_above : (v : Version) (vs : List Version) → AllByRecursion (λ (w : Version). is_before v w ≡ true) vs → AllByRecursion (λ (w : Version). is_gt (key_cmp v.pair.key w.pair.key) ≡ false) vs
none_above v vs all = all-weaker (λ (w : Version). is_before v w ≡ true) (λ (w : Version). is_gt (key_cmp v.pair.key w.pair.key) ≡ false) (λ w h. not_above v w h) vs all

above_all : (key : List ℕ) (vs : List Version) → AreSorted vs → AllByRecursion (λ (w : Version). is_gt (key_cmp key w.pair.key) ≡ false) vs → IsBelowAll key (newest_of (Some key) vs)
above_all key [] sorted all = tt
above_all key (w ∷ ws) sorted all = by_order (key_cmp key w.pair.key) refl all.0 (above_all w.pair.key ws sorted.1 (none_above w ws sorted.0))
  where
    by_order : (r : Ordering) → key_cmp key w.pair.key ≡ r → is_gt r ≡ false → IsBelowAll w.pair.key (newest_of (Some w.pair.key) ws) → IsBelowAll key (cond (is_eq r) (newest_of (Some w.pair.key) ws) (w.pair ∷ newest_of (Some w.pair.key) ws))
    by_order Greater e h rest = absurd cc
    by_order Equal e h rest = subst (λ (k : List ℕ). IsBelowAll k (newest_of (Some w.pair.key) ws)) (sym (same_key key w.pair.key e)) rest
    by_order Less e h rest = (e, all-weaker (λ (p : Pair). key_cmp w.pair.key p.key ≡ Less) (λ (p : Pair). key_cmp key p.key ≡ Less) (λ p l. total.trans key w.pair.key p.key e l) (newest_of (Some w.pair.key) ws) rest)

pub newest_rises : (last : Option (List ℕ)) (vs : List Version) → AreSorted vs → IsRun (newest_of last vs)
newest_rises last [] sorted = tt
newest_rises last (v ∷ vs) sorted = by_test (has_key last v.pair.key) (newest_rises (Some v.pair.key) vs sorted.1)
  where
    by_test : (b : Bool) → IsRun (newest_of (Some v.pair.key) vs) → IsRun (cond b (newest_of (Some v.pair.key) vs) (v.pair ∷ newest_of (Some v.pair.key) vs))
    by_test true rest = rest
    by_test false rest = (above_all v.pair.key vs sorted.1 (none_above v vs sorted.0), rest)

-- ---- the change of the first version of a key

abbrev pub first_change : List Version → List ℕ → Option Change
first_change [] key = None
first_change (v ∷ vs) key = cond (is_eq (key_cmp v.pair.key key)) (Some v.pair.change) (first_change vs key)

same_test : (last : List ℕ) (v : Version) (key : List ℕ) → is_eq (key_cmp last v.pair.key) ≡ true → is_eq (key_cmp last key) ≡ false → is_eq (key_cmp v.pair.key key) ≡ false
same_test last v key same other = by_order (key_cmp last v.pair.key) refl same
  where
    by_order : (r : Ordering) → key_cmp last v.pair.key ≡ r → is_eq r ≡ true → is_eq (key_cmp v.pair.key key) ≡ false
    by_order Equal e h = ap (λ (k : List ℕ). is_eq (key_cmp k key)) (sym (same_key last v.pair.key e)) ∙ other
    by_order Less e h = absurd cc
    by_order Greater e h = absurd cc

pub change_at-newest : (last : Option (List ℕ)) (vs : List Version) (key : List ℕ) → has_key last key ≡ false → change_at (newest_of last vs) key ≡ first_change vs key
change_at-newest last [] key other = refl
change_at-newest last (v ∷ vs) key other = by_tests (has_key last v.pair.key) (is_eq (key_cmp v.pair.key key)) refl refl (λ h. change_at-newest (Some v.pair.key) vs key h)
  where
    skipped : (o : Option (List ℕ)) → has_key o v.pair.key ≡ true → has_key o key ≡ false → is_eq (key_cmp v.pair.key key) ≡ false
    skipped None same h = absurd cc
    skipped (Some k) same h = same_test k v key same h

    by_tests : (b d : Bool) → has_key last v.pair.key ≡ b → is_eq (key_cmp v.pair.key key) ≡ d → (is_eq (key_cmp v.pair.key key) ≡ false → change_at (newest_of (Some v.pair.key) vs) key ≡ first_change vs key) → change_at (cond b (newest_of (Some v.pair.key) vs) (v.pair ∷ newest_of (Some v.pair.key) vs)) key ≡ cond d (Some v.pair.change) (first_change vs key)
    by_tests true true e f rest = absurd (let k = skipped last e other in cc)
    by_tests true false e f rest = rest f
    by_tests false true e f rest = rw f refl
    by_tests false false e f rest = rw f (rest f)

change_in : (run place : ℕ) (pairs : List Pair) (key : List ℕ) → first_change (versions_in run place pairs) key ≡ change_at pairs key
change_in run place [] key = refl
change_in run place (p ∷ ps) key = ap (λ (o : Option Change). cond (is_eq (key_cmp p.key key)) (Some p.change) o) (change_in run (place + 1) ps key)

-- after a version of the key there is none of an earlier run
later_none : (v : Version) (vs : List Version) (key : List ℕ) (k : ℕ) → AllByRecursion (λ (w : Version). is_before v w ≡ true) vs → k < v.run → key_cmp v.pair.key key ≡ Equal → first_change (filter (λ (w : Version). w.run == k) vs) key ≡ None
later_none v [] key k all low same = refl
later_none v (w ∷ ws) key k all low same = by_tests (w.run == k) (is_eq (key_cmp w.pair.key key)) refl refl (later_none v ws key k all.1 low same)
  where
    clash : w.run ≡ k → is_eq (key_cmp w.pair.key key) ≡ true → ⊥
    clash e f = by_order (key_cmp v.pair.key w.pair.key) refl all.0
      where
        equal : (r : Ordering) → is_eq r ≡ true → r ≡ Equal
        equal Equal h = refl
        equal Less h = absurd cc
        equal Greater h = absurd cc

        one_key : v.pair.key ≡ w.pair.key
        one_key = same_key v.pair.key key same ∙ sym (same_key w.pair.key key (equal (key_cmp w.pair.key key) f))

        by_order : (r : Ordering) → key_cmp v.pair.key w.pair.key ≡ r → before_by r v.run w.run ≡ true → ⊥
        by_order Equal o h = grind (arith, nat_tests)
        by_order Less o h = absurd (let l : key_cmp v.pair.key v.pair.key ≡ Less = ap (λ (x : List ℕ). key_cmp v.pair.key x) one_key ∙ o in let m = key_cmp-same v.pair.key in cc)
        by_order Greater o h = absurd cc

    by_tests : (b d : Bool) → (w.run == k) ≡ b → is_eq (key_cmp w.pair.key key) ≡ d → first_change (filter (λ (u : Version). u.run == k) ws) key ≡ None → first_change (cond b (w ∷ filter (λ (u : Version). u.run == k) ws) (filter (λ (u : Version). u.run == k) ws)) key ≡ None
    by_tests false d e f rest = rest
    by_tests true false e f rest = rw f rest
    by_tests true true e f rest = absurd (clash (grind (arith, nat_tests)) f)

abbrev from_run : ℕ → List Version → List Version
from_run k vs = filter (λ (v : Version). nat_le k v.run) vs

abbrev only_run : ℕ → List Version → List Version
only_run k vs = filter (λ (v : Version). v.run == k) vs

one_run_more : (k : ℕ) (vs : List Version) (key : List ℕ) → AreSorted vs → first_change (from_run k vs) key ≡ or_change (first_change (only_run k vs) key) (first_change (from_run (k + 1) vs) key)
one_run_more k [] key sorted = refl
one_run_more k (v ∷ vs) key sorted = by_tests (nat_le k v.run) (v.run == k) (nat_le (k + 1) v.run) (key_cmp v.pair.key key) refl refl refl refl (one_run_more k vs key sorted.1)
  where
    by_tests : (a b c : Bool) (r : Ordering) → nat_le k v.run ≡ a → (v.run == k) ≡ b → nat_le (k + 1) v.run ≡ c → key_cmp v.pair.key key ≡ r → first_change (from_run k vs) key ≡ or_change (first_change (only_run k vs) key) (first_change (from_run (k + 1) vs) key) →
        first_change (cond a (v ∷ from_run k vs) (from_run k vs)) key ≡ or_change (first_change (cond b (v ∷ only_run k vs) (only_run k vs)) key) (first_change (cond c (v ∷ from_run (k + 1) vs) (from_run (k + 1) vs)) key)
    by_tests true true true r e f g h rest = absurd (grind (arith, nat_tests))
    by_tests true false false r e f g h rest = absurd (grind (arith, nat_tests))
    by_tests false true c r e f g h rest = absurd (grind (arith, nat_tests))
    by_tests false false true r e f g h rest = absurd (grind (arith, nat_tests))
    by_tests false false false r e f g h rest = rest
    by_tests true true false Equal e f g h rest = rw h refl
    by_tests true true false Less e f g h rest = rw h rest
    by_tests true true false Greater e f g h rest = rw h rest
    by_tests true false true Less e f g h rest = rw h rest
    by_tests true false true Greater e f g h rest = rw h rest
    by_tests true false true Equal e f g h rest = rw (h, later_none v vs key k sorted.0 (grind (arith, nat_tests)) h) refl

no_run_from : (n : ℕ) (vs : List Version) (key : List ℕ) → AllByRecursion (λ (v : Version). v.run < n) vs → first_change (from_run n vs) key ≡ None
no_run_from n [] key all = refl
no_run_from n (v ∷ vs) key all = rw (low all.0) (no_run_from n vs key all.1)
  where
    low : v.run < n → nat_le n v.run ≡ false
    low h = grind (arith, nat_tests)

every_run : (vs : List Version) (k : ℕ) → k ≡ 0 → from_run k vs ≡ vs
every_run [] k e = refl
every_run (v ∷ vs) k e = rw (zero_low k v.run e) (ap (λ (us : List Version). v ∷ us) (every_run vs k e))
  where
    zero_low : (k n : ℕ) → k ≡ 0 → nat_le k n ≡ true
    zero_low k n e = grind (arith, nat_tests)

level_change_from : (rs : List (List Pair)) (k n : ℕ) (vs : List Version) (key : List ℕ) → AreSorted vs → k + length rs ≡ n → ((r : ℕ) → r < length rs → change_at (run_at rs r) key ≡ first_change (only_run (k + r) vs) key) → AllByRecursion (λ (v : Version). v.run < n) vs → change_at (level_of rs) key ≡ first_change (from_run k vs) key
level_change_from [] k n vs key sorted e h all = sym (no_run_from k vs key (subst (λ (m : ℕ). AllByRecursion (λ (v : Version). v.run < m) vs) (sym e ∙ omega arith) all))
level_change_from (r ∷ rs) k n vs key sorted e h all =
    change_at-over r (level_of rs) key
    ∙ (λ i. or_change (first i) (level_change_from rs (k + 1) n vs key sorted (omega (arith, e)) later all i))
    ∙ sym (one_run_more k vs key sorted)
  where
    first : change_at r key ≡ first_change (only_run k vs) key
    first = h 0 (omega arith) ∙ ap (λ (m : ℕ). first_change (only_run m vs) key) (omega arith)

    later : (q : ℕ) → q < length rs → change_at (run_at rs q) key ≡ first_change (only_run ((k + 1) + q) vs) key
    later q lt = h (suc q) (omega arith) ∙ ap (λ (m : ℕ). first_change (only_run m vs) key) (omega arith)

pub level_change : (runs : List (List Pair)) (vs : List Version) (key : List ℕ) → IsSortedView runs vs → change_at (level_of runs) key ≡ first_change vs key
level_change runs vs key view =
    level_change_from runs 0 (length runs) vs key view.sorted (omega arith) each (all_runs runs vs view)
    ∙ ap (λ (us : List Version). first_change us key) (every_run vs 0 refl)
  where
    zero_more : (r : ℕ) → r ≡ 0 + r
    zero_more r = omega arith

    each : (r : ℕ) → r < length runs → change_at (run_at runs r) key ≡ first_change (only_run (0 + r) vs) key
    each r lt = sym (change_in r 0 (run_at runs r) key) ∙ ap (λ (us : List Version). first_change us key) (sym (view.all r)) ∙ ap (λ (m : ℕ). first_change (only_run m vs) key) (zero_more r)

pub newest_is_level : (runs : List (List Pair)) (vs : List Version) → IsSortedView runs vs → newest_of None vs ≡ level_of runs
newest_is_level runs vs view = run_ext (newest_of None vs) (level_of runs) (newest_rises None vs view.sorted) (IsRun-level_of runs) (λ key. change_at-newest None vs key refl ∙ sym (level_change runs vs key view))

-- ---- from the first place of a key on

not_below_all : (v : Version) (vs : List Version) (key : List ℕ) → AllByRecursion (λ (w : Version). is_before v w ≡ true) vs → below_key key v ≡ false → AllByRecursion (λ (w : Version). below_key key w ≡ false) vs
not_below_all v [] key all is = tt
not_below_all v (w ∷ ws) key all is = (by_test (below_key key w) refl, not_below_all v ws key all.1 is)
  where
    by_test : (b : Bool) → below_key key w ≡ b → b ≡ false
    by_test false e = refl
    by_test true e = absurd (let k = sorted_falls (v ∷ w ∷ []) key 0 1 ((all.0, tt), (tt, tt)) (omega arith) e in cc)

pub count_splits : (key : List ℕ) (vs : List Version) → AreSorted vs → SplitsAt key vs (count_by (below_key key) vs)
count_splits key [] sorted = record { inside = omega arith; before = λ i h. absurd (omega arith); after = λ i h. refl }
count_splits key (v ∷ vs) sorted = by_test (below_key key v) refl (count_splits key vs sorted.1)
  where
    none_there : (us : List Version) (i : ℕ) → AllByRecursion (λ (w : Version). below_key key w ≡ false) us → below_there key us i ≡ false
    none_there [] i all = refl
    none_there (u ∷ us) zero all = all.0
    none_there (u ∷ us) (suc i) all = none_there us i all.1

    more : below_key key v ≡ true → SplitsAt key vs (count_by (below_key key) vs) → SplitsAt key (v ∷ vs) (suc (count_by (below_key key) vs))
    more e s = record { inside = omega (arith, s.inside); before = λ i h. before i h; after = λ i h. after i h }
      where
        before : (i : ℕ) → i < suc (count_by (below_key key) vs) → below_there key (v ∷ vs) i ≡ true
        before zero h = e
        before (suc i) h = s.before i (omega arith)

        after : (i : ℕ) → suc (count_by (below_key key) vs) ≤ i → below_there key (v ∷ vs) i ≡ false
        after zero h = absurd (omega arith)
        after (suc i) h = s.after i (omega arith)

    one_more : (n m : ℕ) → n ≡ 1 + m → suc m ≡ n
    one_more n m h = omega arith

    by_test : (b : Bool) → below_key key v ≡ b → SplitsAt key vs (count_by (below_key key) vs) → SplitsAt key (v ∷ vs) (count_by (below_key key) (v ∷ vs))
    by_test true e s = subst (λ (n : ℕ). SplitsAt key (v ∷ vs) n) (one_more (count_by (below_key key) (v ∷ vs)) (count_by (below_key key) vs) (count-yes (below_key key) v vs e)) (more e s)
    by_test false e s =
        let none = not_below_all v vs key sorted.0 e in
        subst (λ (n : ℕ). SplitsAt key (v ∷ vs) n) (sym (count-none (below_key key) (v ∷ vs) (e, none)))
        (record { inside = omega arith; before = λ i h. absurd (omega arith); after = λ i h. none_there (v ∷ vs) i (e, none) })

-- as many versions stand before the first place as keys are below
pub splits_at_all_below : (runs : List (List Pair)) (vs : List Version) (key : List ℕ) (n : ℕ) → IsSortedView runs vs → n ≡ all_below key runs → SplitsAt key vs n
splits_at_all_below runs vs key n view e =
    let s = count_splits key vs view.sorted in
    subst (λ (m : ℕ). SplitsAt key vs m) (sym (all_below_split runs vs key (count_by (below_key key) vs) view s) ∙ sym e) s

rest_splits : (key : List ℕ) (v : Version) (vs : List Version) (n : ℕ) → SplitsAt key (v ∷ vs) (suc n) → SplitsAt key vs n
rest_splits key v vs n s = record { inside = omega (arith, s.inside); before = λ i h. s.before (suc i) (omega arith); after = λ i h. s.after (suc i) (omega arith) }

none_splits : (key : List ℕ) (v : Version) (vs : List Version) → SplitsAt key (v ∷ vs) 0 → SplitsAt key vs 0
none_splits key v vs s = record { inside = omega arith; before = λ i h. absurd (omega arith); after = λ i h. s.after (suc i) (omega arith) }

-- a version above the key: so are all after it
first_above : (v : Version) (vs : List Version) (key : List ℕ) → AllByRecursion (λ (w : Version). is_before v w ≡ true) vs → key_cmp v.pair.key key ≡ Greater → first_change vs key ≡ None
first_above v [] key all above = refl
first_above v (w ∷ ws) key all above = by_order (key_cmp w.pair.key key) refl (first_above v ws key all.1 above)
  where
    clash : key_cmp w.pair.key key ≡ Equal → ⊥
    clash e = by_before (key_cmp v.pair.key w.pair.key) refl all.0
      where
        by_before : (r : Ordering) → key_cmp v.pair.key w.pair.key ≡ r → before_by r v.run w.run ≡ true → ⊥
        by_before Less o h = absurd (let l : key_cmp v.pair.key key ≡ Less = ap (λ (k : List ℕ). key_cmp v.pair.key k) (sym (same_key w.pair.key key e)) ∙ o in cc)
        by_before Equal o h = absurd (let l : key_cmp v.pair.key key ≡ Equal = ap (λ (k : List ℕ). key_cmp v.pair.key k) (sym (same_key w.pair.key key e)) ∙ o in cc)
        by_before Greater o h = absurd cc

    by_order : (r : Ordering) → key_cmp w.pair.key key ≡ r → first_change ws key ≡ None → cond (is_eq r) (Some w.pair.change) (first_change ws key) ≡ None
    by_order Less e rest = rest
    by_order Greater e rest = rest
    by_order Equal e rest = absurd (clash e)

pub first_change-split : (vs : List Version) (key : List ℕ) (n : ℕ) → AreSorted vs → SplitsAt key vs n → first_change vs key ≡ change_there (slice_get vs n) key
first_change-split [] key n sorted s = refl
first_change-split (v ∷ vs) key zero sorted s = by_order (key_cmp v.pair.key key) refl (s.after 0 (omega arith))
  where
    by_order : (r : Ordering) → key_cmp v.pair.key key ≡ r → is_lt (key_cmp v.pair.key key) ≡ false → cond (is_eq r) (Some v.pair.change) (first_change vs key) ≡ cond (is_eq r) (Some v.pair.change) None
    by_order Equal e h = refl
    by_order Greater e h = first_above v vs key sorted.0 e
    by_order Less e h = absurd (let k = ap is_lt e in cc)
first_change-split (v ∷ vs) key (suc n) sorted s = by_order (key_cmp v.pair.key key) refl (s.before 0 (omega arith)) (first_change-split vs key n sorted.1 (rest_splits key v vs n s))
  where
    by_order : (r : Ordering) → key_cmp v.pair.key key ≡ r → is_lt (key_cmp v.pair.key key) ≡ true → first_change vs key ≡ change_there (slice_get vs n) key → cond (is_eq r) (Some v.pair.change) (first_change vs key) ≡ change_there (slice_get vs n) key
    by_order Less e h rest = rest
    by_order Equal e h rest = absurd (let k = ap is_lt e in cc)
    by_order Greater e h rest = absurd (let k = ap is_lt e in cc)

pub in_level : (runs : List (List Pair)) (vs : List Version) (key : List ℕ) (n : ℕ) → IsSortedView runs vs → n ≡ all_below key runs → change_at (level_of runs) key ≡ change_there (slice_get vs n) key
in_level runs vs key n view e = level_change runs vs key view ∙ first_change-split vs key n view.sorted (splits_at_all_below runs vs key n view e)

abbrev reached : List ℕ → Pair → Bool
reached key pair = not (is_lt (key_cmp pair.key key))

newest_filter : (last : Option (List ℕ)) (vs : List Version) (key : List ℕ) (n : ℕ) → SplitsAt key vs n → filter (reached key) (newest_of last vs) ≡ newest_of (key_before last vs n) (drop n vs)
newest_filter last [] key zero s = refl
newest_filter last [] key (suc n) s = absurd (omega (arith, s.inside))
newest_filter last (v ∷ vs) key zero s = by_tests (has_key last v.pair.key) (newest_filter (Some v.pair.key) vs key zero (none_splits key v vs s))
  where
    stays : reached key v.pair ≡ true
    stays = ap not (s.after 0 (omega arith))

    by_tests : (b : Bool) → filter (reached key) (newest_of (Some v.pair.key) vs) ≡ newest_of (Some v.pair.key) vs → filter (reached key) (cond b (newest_of (Some v.pair.key) vs) (v.pair ∷ newest_of (Some v.pair.key) vs)) ≡ cond b (newest_of (Some v.pair.key) vs) (v.pair ∷ newest_of (Some v.pair.key) vs)
    by_tests true rest = rest
    by_tests false rest = (λ i. cond (stays i) (v.pair ∷ filter (reached key) (newest_of (Some v.pair.key) vs)) (filter (reached key) (newest_of (Some v.pair.key) vs))) ∙ ap (λ (ps : List Pair). v.pair ∷ ps) rest
newest_filter last (v ∷ vs) key (suc n) s = by_tests (has_key last v.pair.key) (newest_filter (Some v.pair.key) vs key n (rest_splits key v vs n s))
  where
    goes : reached key v.pair ≡ false
    goes = ap not (s.before 0 (omega arith))

    by_tests : (b : Bool) → filter (reached key) (newest_of (Some v.pair.key) vs) ≡ newest_of (key_before (Some v.pair.key) vs n) (drop n vs) → filter (reached key) (cond b (newest_of (Some v.pair.key) vs) (v.pair ∷ newest_of (Some v.pair.key) vs)) ≡ newest_of (key_before (Some v.pair.key) vs n) (drop n vs)
    by_tests true rest = rest
    by_tests false rest = (λ i. cond (goes i) (v.pair ∷ filter (reached key) (newest_of (Some v.pair.key) vs)) (filter (reached key) (newest_of (Some v.pair.key) vs))) ∙ rest

pub listed : (runs : List (List Pair)) (vs : List Version) (key : List ℕ) (n : ℕ) → IsSortedView runs vs → n ≡ all_below key runs → newest_of (key_before None vs n) (drop n vs) ≡ filter (λ (pair : Pair). not (is_lt (key_cmp pair.key key))) (level_of runs)
listed runs vs key n view e = sym (newest_filter None vs key n (splits_at_all_below runs vs key n view e)) ∙ ap (filter (reached key)) (newest_is_level runs vs view)
