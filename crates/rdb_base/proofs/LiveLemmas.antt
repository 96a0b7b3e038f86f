-- Rows of a run. To know: `live-filter`, `live-with_pair`, `value_at-live`.
use Rattle.std.proofs.Common.{◌≡◌, ℕ, Bool, true, false, cond, not, List, [], ◌∷◌, ◌++◌, Some, None, refl, sym, ap, ◌∙◌}
use Rattle.std.specs.Prelude.{filter}
use Rattle.std.specs.List.{AllByRecursion}
use Rattle.std.specs.Ordering.{is_lt, is_gt, is_eq}
use Rattle.std.specs.declared.cmp.Ordering.{Ordering}
use Rattle.std.specs.declared.cmp.Ordering.TheVariants.{Less, Equal, Greater}
use Rattle.rdb_base.specs.Order.{key_cmp}
use Rattle.rdb_base.specs.Maps.{IsRising, value_at, changed}
use Rattle.rdb_base.specs.Runs.{IsBelowAll, change_at}
use Rattle.rdb_base.specs.Levels.{with_pair, pairs_below, pairs_above, live, row_before}
use Rattle.rdb_base.specs.LevelLaws.{value_of, RowsAreMap, RowsHaveChanges, RowsFromBound}
use Rattle.rdb_base.specs.declared.row.Row.{Row}
use Rattle.rdb_base.specs.declared.change.Change.{Change}
use Rattle.rdb_base.specs.declared.change.Change.TheVariants.{Put, Del}
use Rattle.rdb_base.specs.declared.pair.Pair.{Pair}
use Rattle.rdb_base.proofs.KeyOrder.{same_key, turned_less}

row_before-append : (key : List ℕ) (change : Change) (rows more : List Row) → row_before key change rows ++ more ≡ row_before key change (rows ++ more)
row_before-append key (Put value) rows more = refl
row_before-append key Del rows more = refl

-- the rows of two lists after each other
pub live-append : (xs ys : List Pair) → live (xs ++ ys) ≡ live xs ++ live ys
live-append [] ys = refl
live-append (x ∷ xs) ys = ap (row_before x.key x.change) (live-append xs ys) ∙ sym (row_before-append x.key x.change (live xs) (live ys))

-- a test of keys passes a run's rows as it passes its pairs
row_before-filter : (test : List ℕ → Bool) (key : List ℕ) (change : Change) (rows : List Row) (b : Bool) → test key ≡ b → filter (λ (row : Row). test row.key) (row_before key change rows) ≡ cond b (row_before key change (filter (λ (row : Row). test row.key) rows)) (filter (λ (row : Row). test row.key) rows)
row_before-filter test key (Put value) rows true e = rw e refl
row_before-filter test key (Put value) rows false e = rw e refl
row_before-filter test key Del rows true e = refl
row_before-filter test key Del rows false e = refl

pub live-filter : (test : List ℕ → Bool) (pairs : List Pair) → live (filter (λ (pair : Pair). test pair.key) pairs) ≡ filter (λ (row : Row). test row.key) (live pairs)
live-filter test [] = refl
live-filter test (p ∷ ps) = by_test (live-filter test ps) (test p.key) refl
  where
    by_test : live (filter (λ (pair : Pair). test pair.key) ps) ≡ filter (λ (row : Row). test row.key) (live ps) → (b : Bool) → test p.key ≡ b →
        live (cond b (p ∷ filter (λ (pair : Pair). test pair.key) ps) (filter (λ (pair : Pair). test pair.key) ps)) ≡ filter (λ (row : Row). test row.key) (row_before p.key p.change (live ps))
    by_test rest true e = ap (row_before p.key p.change) rest ∙ sym (row_before-filter test p.key p.change (live ps) true e)
    by_test rest false e = rest ∙ sym (row_before-filter test p.key p.change (live ps) false e)

-- the rows with a pair more are the rows after its change
pub live-with_pair : (pairs : List Pair) (key : List ℕ) (change : Change) → live (with_pair pairs (record { key = key; change = change })) ≡ changed (live pairs) key change
live-with_pair pairs key (Put value) =
    live-append (pairs_below key pairs) (record { key = key; change = Put value } ∷ pairs_above key pairs)
    ∙ (λ i. live-filter (λ (k : List ℕ). is_lt (key_cmp k key)) pairs i ++ record { key = key; value = value } ∷ live-filter (λ (k : List ℕ). is_gt (key_cmp k key)) pairs i)
live-with_pair pairs key Del =
    live-append (pairs_below key pairs) (record { key = key; change = Del } ∷ pairs_above key pairs)
    ∙ (λ i. live-filter (λ (k : List ℕ). is_lt (key_cmp k key)) pairs i ++ live-filter (λ (k : List ℕ). is_gt (key_cmp k key)) pairs i)

-- the rows from a bound on are the rows of the pairs from it on
pub live-pairs_from : RowsFromBound
live-pairs_from run bound = sym (live-filter (λ (key : List ℕ). not (is_lt (key_cmp key bound))) run)

-- what held of the keys of all pairs holds of those of all rows
pub all-live : (P : List ℕ → Type 0) (pairs : List Pair) → AllByRecursion (λ (pair : Pair). P pair.key) pairs → AllByRecursion (λ (row : Row). P row.key) (live pairs)
all-live P [] all = tt
all-live P (p ∷ ps) all = by_change p.change (all-live P ps all.1)
  where
    by_change : (change : Change) → AllByRecursion (λ (row : Row). P row.key) (live ps) → AllByRecursion (λ (row : Row). P row.key) (row_before p.key change (live ps))
    by_change (Put value) rest = (all.0, rest)
    by_change Del rest = rest

-- the rows of a run are a map
pub IsRising-live : RowsAreMap
IsRising-live [] run = tt
IsRising-live (p ∷ ps) run = by_change p.change (IsRising-live ps run.1)
  where
    by_change : (change : Change) → IsRising (live ps) → IsRising (row_before p.key change (live ps))
    by_change (Put value) rest = (all-live (λ (key : List ℕ). key_cmp p.key key ≡ Less) ps run.0, rest)
    by_change Del rest = rest

-- a key below all pairs has no row
pub value_at-live_below : (key : List ℕ) (pairs : List Pair) → IsBelowAll key pairs → value_at (live pairs) key ≡ None
value_at-live_below key [] all = refl
value_at-live_below key (p ∷ ps) all = by_change p.change (value_at-live_below key ps all.1)
  where
    by_change : (change : Change) → value_at (live ps) key ≡ None → value_at (row_before p.key change (live ps)) key ≡ None
    by_change (Put value) rest = rw (turned_less key p.key all.0) rest
    by_change Del rest = rest

-- at each key the rows have what the run's change leaves there
pub value_at-live : RowsHaveChanges
value_at-live [] key run = refl
value_at-live (p ∷ ps) key run = by_order (value_at-live ps key run.1) (key_cmp p.key key) refl
  where
    none_left : p.key ≡ key → value_at (live ps) key ≡ None
    none_left e = ap (value_at (live ps)) (sym e) ∙ value_at-live_below p.key ps run.0

    by_change : (change : Change) (b : Bool) → is_eq (key_cmp p.key key) ≡ b → (b ≡ true → value_at (live ps) key ≡ None)
        → value_at (live ps) key ≡ value_of (change_at ps key) → value_at (row_before p.key change (live ps)) key ≡ value_of (cond b (Some change) (change_at ps key))
    by_change (Put value) true e gone rest = rw e refl
    by_change (Put value) false e gone rest = rw e rest
    by_change Del true e gone rest = gone refl
    by_change Del false e gone rest = rest

    by_order : value_at (live ps) key ≡ value_of (change_at ps key) → (r : Ordering) → key_cmp p.key key ≡ r → value_at (live (p ∷ ps)) key ≡ value_of (change_at (p ∷ ps) key)
    by_order rest Less e = rw e (by_change p.change false (ap is_eq e) (λ h. absurd cc) rest)
    by_order rest Greater e = rw e (by_change p.change false (ap is_eq e) (λ h. absurd cc) rest)
    by_order rest Equal e = rw e (by_change p.change true (ap is_eq e) (λ h. none_left (same_key p.key key e)) rest)
