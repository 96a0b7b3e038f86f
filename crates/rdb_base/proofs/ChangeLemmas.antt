-- The change at a key. To know: `change_at-with_pair`, `change_at-over`, `change_at-level_of`.
use Rattle.std.proofs.Common.{◌≡◌, ℕ, Bool, true, false, cond, List, [], ◌∷◌, ◌++◌, Option, Some, None, refl, ap, ◌∙◌}
use Rattle.std.specs.Prelude.{filter}
use Rattle.std.specs.Ordering.{is_lt, is_gt, is_eq}
use Rattle.std.specs.declared.cmp.Ordering.{Ordering}
use Rattle.std.specs.declared.cmp.Ordering.TheVariants.{Less, Equal, Greater}
use Rattle.rdb_base.specs.Order.{key_cmp}
use Rattle.rdb_base.specs.Runs.{IsBelowAll, change_at}
use Rattle.rdb_base.specs.Levels.{with_pair, over, pairs_below, pairs_above, level_of, or_change, newest_change}
use Rattle.rdb_base.specs.declared.change.Change.{Change}
use Rattle.rdb_base.specs.declared.pair.Pair.{Pair}
use Rattle.rdb_base.proofs.KeyOrder.{total, key_cmp-same, turned_less, turned_greater, turned_equal}

-- a key below all pairs has no change there
pub change_at-below : (key : List ℕ) (pairs : List Pair) → IsBelowAll key pairs → change_at pairs key ≡ None
change_at-below key [] all = refl
change_at-below key (p ∷ ps) all = rw (turned_less key p.key all.0) (change_at-below key ps all.1)

-- the first pair's key has its change
pub change_at-first : (p : Pair) (ps : List Pair) → change_at (p ∷ ps) p.key ≡ Some p.change
change_at-first p ps = rw (key_cmp-same p.key) refl

-- the change at a key of the pairs after the first, where the first has another key
pub change_at-rest : (p : Pair) (ps : List Pair) (key : List ℕ) → is_eq (key_cmp p.key key) ≡ false → change_at (p ∷ ps) key ≡ change_at ps key
change_at-rest p ps key e = rw e refl

-- the change at a key of two lists after each other
pub change_at-append : (xs ys : List Pair) (key : List ℕ) → change_at (xs ++ ys) key ≡ or_change (change_at xs key) (change_at ys key)
change_at-append [] ys key = refl
change_at-append (x ∷ xs) ys key = by_test (change_at-append xs ys key) (is_eq (key_cmp x.key key))
  where
    by_test : change_at (xs ++ ys) key ≡ or_change (change_at xs key) (change_at ys key) → (b : Bool) → cond b (Some x.change) (change_at (xs ++ ys) key) ≡ or_change (cond b (Some x.change) (change_at xs key)) (change_at ys key)
    by_test rest true = refl
    by_test rest false = rest

-- a test that passes every pair of a key leaves its change
pub change_at-filter_kept : (test : Pair → Bool) (pairs : List Pair) (key : List ℕ) → ((q : Pair) → key_cmp q.key key ≡ Equal → test q ≡ true) → change_at (filter test pairs) key ≡ change_at pairs key
change_at-filter_kept test [] key kept = refl
change_at-filter_kept test (q ∷ qs) key kept = by_order (change_at-filter_kept test qs key kept) (key_cmp q.key key) refl (test q) refl
  where
    by_order : change_at (filter test qs) key ≡ change_at qs key → (r : Ordering) → key_cmp q.key key ≡ r → (b : Bool) → test q ≡ b → change_at (cond b (q ∷ filter test qs) (filter test qs)) key ≡ cond (is_eq r) (Some q.change) (change_at qs key)
    by_order rest Equal e true t = rw e refl
    by_order rest Equal e false t = absurd (let k : test q ≡ true = kept q e in cc)
    by_order rest Less e true t = rw e rest
    by_order rest Less e false t = rest
    by_order rest Greater e true t = rw e rest
    by_order rest Greater e false t = rest

-- a test that passes no pair of a key leaves no change there
pub change_at-filter_none : (test : Pair → Bool) (pairs : List Pair) (key : List ℕ) → ((q : Pair) → key_cmp q.key key ≡ Equal → test q ≡ false) → change_at (filter test pairs) key ≡ None
change_at-filter_none test [] key gone = refl
change_at-filter_none test (q ∷ qs) key gone = by_order (change_at-filter_none test qs key gone) (key_cmp q.key key) refl (test q) refl
  where
    by_order : change_at (filter test qs) key ≡ None → (r : Ordering) → key_cmp q.key key ≡ r → (b : Bool) → test q ≡ b → change_at (cond b (q ∷ filter test qs) (filter test qs)) key ≡ None
    by_order rest r e false t = rest
    by_order rest Less e true t = rw e rest
    by_order rest Greater e true t = rw e rest
    by_order rest Equal e true t = absurd (let k : test q ≡ false = gone q e in cc)

-- pairs of one key stand to another key as that key does
stands : (key other : List ℕ) (q : Pair) (r : Ordering) → key_cmp q.key key ≡ Equal → key_cmp key other ≡ r → key_cmp q.key other ≡ r
stands key other q r e h = total.congr q.key key other e ∙ h

-- the change at a key of the pairs below another key, and of those above it
pub change_at-pairs_below : (pairs : List Pair) (key other : List ℕ) (r : Ordering) → key_cmp key other ≡ r → change_at (pairs_below other pairs) key ≡ cond (is_lt r) (change_at pairs key) None
change_at-pairs_below pairs key other Less h = change_at-filter_kept (λ (q : Pair). is_lt (key_cmp q.key other)) pairs key (λ q e. ap is_lt (stands key other q Less e h))
change_at-pairs_below pairs key other Equal h = change_at-filter_none (λ (q : Pair). is_lt (key_cmp q.key other)) pairs key (λ q e. ap is_lt (stands key other q Equal e h))
change_at-pairs_below pairs key other Greater h = change_at-filter_none (λ (q : Pair). is_lt (key_cmp q.key other)) pairs key (λ q e. ap is_lt (stands key other q Greater e h))

pub change_at-pairs_above : (pairs : List Pair) (key other : List ℕ) (r : Ordering) → key_cmp key other ≡ r → change_at (pairs_above other pairs) key ≡ cond (is_gt r) (change_at pairs key) None
change_at-pairs_above pairs key other Less h = change_at-filter_none (λ (q : Pair). is_gt (key_cmp q.key other)) pairs key (λ q e. ap is_gt (stands key other q Less e h))
change_at-pairs_above pairs key other Equal h = change_at-filter_none (λ (q : Pair). is_gt (key_cmp q.key other)) pairs key (λ q e. ap is_gt (stands key other q Equal e h))
change_at-pairs_above pairs key other Greater h = change_at-filter_kept (λ (q : Pair). is_gt (key_cmp q.key other)) pairs key (λ q e. ap is_gt (stands key other q Greater e h))

-- no other change
pub or_change-none : (o : Option Change) → or_change o None ≡ o
or_change-none None = refl
or_change-none (Some change) = refl

-- at its key the new pair's change, at each other key what was there
pub change_at-with_pair : (pairs : List Pair) (p : Pair) (key : List ℕ) → change_at (with_pair pairs p) key ≡ cond (is_eq (key_cmp p.key key)) (Some p.change) (change_at pairs key)
change_at-with_pair pairs p key = by_order (key_cmp key p.key) refl
  where
    by_order : (r : Ordering) → key_cmp key p.key ≡ r → change_at (with_pair pairs p) key ≡ cond (is_eq (key_cmp p.key key)) (Some p.change) (change_at pairs key)
    by_order Less h =
        change_at-append (pairs_below p.key pairs) (p ∷ pairs_above p.key pairs) key
        ∙ rw (turned_less key p.key h, change_at-pairs_below pairs key p.key Less h, change_at-pairs_above pairs key p.key Less h) (or_change-none (change_at pairs key))
    by_order Greater h =
        change_at-append (pairs_below p.key pairs) (p ∷ pairs_above p.key pairs) key
        ∙ rw (turned_greater key p.key h, change_at-pairs_below pairs key p.key Greater h, change_at-pairs_above pairs key p.key Greater h) refl
    by_order Equal h =
        change_at-append (pairs_below p.key pairs) (p ∷ pairs_above p.key pairs) key
        ∙ rw (turned_equal key p.key h, change_at-pairs_below pairs key p.key Equal h) refl

-- the newer pairs' change, else the older ones'
pub change_at-over : (newer older : List Pair) (key : List ℕ) → change_at (over newer older) key ≡ or_change (change_at newer key) (change_at older key)
change_at-over [] older key = refl
change_at-over (p ∷ ps) older key = change_at-with_pair (over ps older) p key ∙ by_test (is_eq (key_cmp p.key key)) (change_at-over ps older key)
  where
    by_test : (b : Bool) → change_at (over ps older) key ≡ or_change (change_at ps key) (change_at older key) → cond b (Some p.change) (change_at (over ps older) key) ≡ or_change (cond b (Some p.change) (change_at ps key)) (change_at older key)
    by_test true rest = refl
    by_test false rest = rest

-- the change of the newest run that has the key
pub change_at-level_of : (runs : List (List Pair)) (key : List ℕ) → change_at (level_of runs) key ≡ newest_change runs key
change_at-level_of [] key = refl
change_at-level_of (run ∷ runs) key = change_at-over run (level_of runs) key ∙ ap (or_change (change_at run key)) (change_at-level_of runs key)
