-- Runs, their parts, and runs with more pairs. To know: `IsRun-append`, `IsRun-push`, `IsRun-with_pair`, `IsRun-over`.
use Rattle.std.proofs.Common.{◌≡◌, ℕ, Bool, true, false, cond, List, [], ◌∷◌, ◌++◌}
use Rattle.std.specs.Prelude.{filter}
use Rattle.std.specs.List.{AllByRecursion}
use Rattle.std.specs.Ordering.{is_lt, is_gt}
use Rattle.std.specs.declared.cmp.Ordering.TheVariants.{Less}
use Rattle.rdb_base.specs.Order.{key_cmp}
use Rattle.rdb_base.specs.Runs.{IsRun, IsBelowAll, AreBelow}
use Rattle.rdb_base.specs.Levels.{with_pair, over, pairs_below, pairs_above, level_of, newest, pair_of}
use Rattle.rdb_base.specs.declared.entry.Entry.{Entry}
use Rattle.rdb_base.specs.declared.pair.Pair.{Pair}
use Rattle.rdb_base.proofs.KeyOrder.{total, turned_greater, less_from_test, greater_from_test}
use Rattle.rdb_base.proofs.Lists.{all-weaker, all-append, all-front, all-back, all-filter, all-filter_passes}

-- a key below another is below all that the other is below
pub IsBelowAll-trans : (a b : List ℕ) (pairs : List Pair) → key_cmp a b ≡ Less → IsBelowAll b pairs → IsBelowAll a pairs
IsBelowAll-trans a b pairs lt all = all-weaker (λ (other : Pair). key_cmp b other.key ≡ Less) (λ (other : Pair). key_cmp a other.key ≡ Less) (λ other h. total.trans a b other.key lt h) pairs all

-- a key below the first one of a run is below all of them
pub IsBelowAll-run : (key : List ℕ) (p : Pair) (ps : List Pair) → IsRun (p ∷ ps) → key_cmp key p.key ≡ Less → IsBelowAll key (p ∷ ps)
IsBelowAll-run key p ps run lt = (lt, IsBelowAll-trans key p.key ps lt run.0)

-- ---- parts of a run

pub IsRun-front : (xs ys : List Pair) → IsRun (xs ++ ys) → IsRun xs
IsRun-front [] ys h = tt
IsRun-front (x ∷ xs) ys h = (all-front (λ (other : Pair). key_cmp x.key other.key ≡ Less) xs ys h.0, IsRun-front xs ys h.1)

pub IsRun-back : (xs ys : List Pair) → IsRun (xs ++ ys) → IsRun ys
IsRun-back [] ys h = h
IsRun-back (x ∷ xs) ys h = IsRun-back xs ys h.1

-- the keys of the front are below those of the back
pub IsRun-apart : (xs ys : List Pair) → IsRun (xs ++ ys) → AllByRecursion (λ (x : Pair). IsBelowAll x.key ys) xs
IsRun-apart [] ys h = tt
IsRun-apart (x ∷ xs) ys h = (all-back (λ (other : Pair). key_cmp x.key other.key ≡ Less) xs ys h.0, IsRun-apart xs ys h.1)

pub IsRun-filter : (test : Pair → Bool) (pairs : List Pair) → IsRun pairs → IsRun (filter test pairs)
IsRun-filter test [] h = tt
IsRun-filter test (p ∷ ps) h = by_test (test p) (IsRun-filter test ps h.1)
  where
    by_test : (b : Bool) → IsRun (filter test ps) → IsRun (cond b (p ∷ filter test ps) (filter test ps))
    by_test true g = (all-filter (λ (other : Pair). key_cmp p.key other.key ≡ Less) test ps h.0, g)
    by_test false g = g

-- two runs after each other, where the first is below the second
pub IsRun-append : (xs ys : List Pair) → IsRun xs → IsRun ys → AllByRecursion (λ (x : Pair). IsBelowAll x.key ys) xs → IsRun (xs ++ ys)
IsRun-append [] ys h g below = g
IsRun-append (x ∷ xs) ys h g below = (all-append (λ (other : Pair). key_cmp x.key other.key ≡ Less) xs ys h.0 below.0, IsRun-append xs ys h.1 g below.1)

-- the pairs below a key are below it, those above it are above it
pub AreBelow-pairs_below : (key : List ℕ) (pairs : List Pair) → AreBelow (pairs_below key pairs) key
AreBelow-pairs_below key pairs = all-weaker (λ (q : Pair). is_lt (key_cmp q.key key) ≡ true) (λ (q : Pair). key_cmp q.key key ≡ Less) (λ q e. less_from_test (key_cmp q.key key) e) (pairs_below key pairs) (all-filter_passes (λ (q : Pair). is_lt (key_cmp q.key key)) pairs)

pub IsBelowAll-pairs_above : (key : List ℕ) (pairs : List Pair) → IsBelowAll key (pairs_above key pairs)
IsBelowAll-pairs_above key pairs = all-weaker (λ (q : Pair). is_gt (key_cmp q.key key) ≡ true) (λ (q : Pair). key_cmp key q.key ≡ Less) (λ q e. turned_greater q.key key (greater_from_test (key_cmp q.key key) e)) (pairs_above key pairs) (all-filter_passes (λ (q : Pair). is_gt (key_cmp q.key key)) pairs)

-- with a pair in its place
pub IsRun-with_pair : (pairs : List Pair) (p : Pair) → IsRun pairs → IsRun (with_pair pairs p)
IsRun-with_pair pairs p h =
    let low = IsRun-filter (λ (q : Pair). is_lt (key_cmp q.key p.key)) pairs h in
    let high = IsRun-filter (λ (q : Pair). is_gt (key_cmp q.key p.key)) pairs h in
    let apart : (q : Pair) → key_cmp q.key p.key ≡ Less → IsBelowAll q.key (pairs_above p.key pairs) =
    λ q lt. all-weaker (λ (r : Pair). key_cmp p.key r.key ≡ Less) (λ (r : Pair). key_cmp q.key r.key ≡ Less) (λ r gt. total.trans q.key p.key r.key lt gt) (pairs_above p.key pairs) (IsBelowAll-pairs_above p.key pairs) in
    IsRun-append (pairs_below p.key pairs) (p ∷ pairs_above p.key pairs) low (IsBelowAll-pairs_above p.key pairs, high)
    (all-weaker (λ (q : Pair). key_cmp q.key p.key ≡ Less) (λ (q : Pair). IsBelowAll q.key (p ∷ pairs_above p.key pairs)) (λ q lt. (lt, apart q lt)) (pairs_below p.key pairs) (AreBelow-pairs_below p.key pairs))

-- with a pair above all at its end
pub IsRun-push : (pairs : List Pair) (p : Pair) → IsRun pairs → AreBelow pairs p.key → IsRun (pairs ++ p ∷ [])
IsRun-push pairs p run below =
    IsRun-append pairs (p ∷ []) run (tt, tt)
    (all-weaker (λ (q : Pair). key_cmp q.key p.key ≡ Less) (λ (q : Pair). IsBelowAll q.key (p ∷ [])) (λ q lt. (lt, tt)) pairs below)

-- a key above the last of a run is above all of them
pub AreBelow-last : (pairs : List Pair) (last : Pair) (key : List ℕ) → IsRun (pairs ++ last ∷ []) → key_cmp last.key key ≡ Less → AreBelow (pairs ++ last ∷ []) key
AreBelow-last pairs last key run lt =
    all-append (λ (q : Pair). key_cmp q.key key ≡ Less) pairs (last ∷ [])
    (all-weaker (λ (q : Pair). IsBelowAll q.key (last ∷ [])) (λ (q : Pair). key_cmp q.key key ≡ Less) (λ q h. total.trans q.key last.key key h.0 lt) pairs (IsRun-apart pairs (last ∷ []) run))
    (lt, tt)

-- newer pairs over a run
pub IsRun-over : (newer older : List Pair) → IsRun older → IsRun (over newer older)
IsRun-over [] older h = h
IsRun-over (p ∷ ps) older h = IsRun-with_pair (over ps older) p (IsRun-over ps older h)

-- the level of runs
pub IsRun-level_of : (runs : List (List Pair)) → IsRun (level_of runs)
IsRun-level_of [] = tt
IsRun-level_of (run ∷ runs) = IsRun-over run (level_of runs) (IsRun-level_of runs)

-- the newest changes of entries
pub IsRun-newest : (pairs : List Pair) (entries : List Entry) → IsRun pairs → IsRun (newest pairs entries)
IsRun-newest pairs [] run = run
IsRun-newest pairs (entry ∷ entries) run = IsRun-newest (with_pair pairs (pair_of entry)) entries (IsRun-with_pair pairs (pair_of entry) run)
