-- The rows in memory after a change, and the value at a key. To know: `rows_of-set`, `changed-no_value`, `value_at-rows_of`.
use Rattle.std.proofs.Common.{◌≡◌, ℕ, List, [], ◌∷◌, ◌++◌, Option, Some, None, refl, sym, ap, subst, ◌∙◌}
use Rattle.std.specs.Prelude.{false, is_some, if◌then◌else◌}
use Rattle.std.specs.Borrow.{Bor}
use Rattle.std.specs.Option.{option_copied}
use Rattle.std.specs.List.{AllByRecursion}
use Rattle.std.specs.Ordering.{is_eq}
use Rattle.std.specs.declared.cmp.Ordering.{Ordering}
use Rattle.std.specs.declared.cmp.Ordering.TheVariants.{Less, Equal, Greater}
use Rattle.rdb_base.specs.Order.{key_cmp}
use Rattle.rdb_base.specs.Maps.{IsRising, changed, value_at, rows_below, rows_above}
use Rattle.rdb_base.specs.LevelLaws.{value_of}
use Rattle.rdb_base.specs.Levels.{live, with_pair}
use Rattle.rdb_base.specs.Runs.{IsRun, change_at}
use Rattle.rdb_base.specs.declared.change.Change.{Change}
use Rattle.rdb_base.specs.declared.change.Change.TheVariants.{Del}
use Rattle.rdb_base.specs.declared.pair.Pair.{Pair}
use Rattle.rdb_base.specs.declared.row.Row.{Row}
use Rattle.rdb_base.proofs.KeyOrder.{turned_less, turned_greater}
use Rattle.rdb_base.proofs.OrderLemmas.{lt_lt}
use Rattle.rdb_base.proofs.Lists.{all-weaker}
use Rattle.rdb_base.proofs.LiveLemmas.{live-with_pair, value_at-live}
use Rattle.memory_rows.specs.Memories.{MemoryState, level}
use Rattle.store_run.specs.Rows.{rows_of}

-- a change for which room was made
pub rows_of-set : (old room new : MemoryState) (key : List ℕ) (change : Change) → level room ≡ level old → level new ≡ with_pair (level room) (record { key = key; change = change }) → rows_of new ≡ changed (rows_of old) key change
rows_of-set old room new key change same set =
    ap live set ∙ live-with_pair (level room) key change ∙ ap (λ (pairs : List Pair). changed (live pairs) key change) same

-- a row has the value that the change at its key left
pub value_at-rows_of : (memory : MemoryState) (key : List ℕ) (found : Option Change) → IsRun (level memory) → found ≡ change_at (level memory) key → value_of found ≡ value_at (rows_of memory) key
value_at-rows_of memory key found run is = ap value_of is ∙ sym (value_at-live (level memory) key run)

-- none of the rows is below a key that is below all of them, and all are above it
rows_below-none : (key : List ℕ) (rows : List Row) → AllByRecursion (λ (row : Row). key_cmp key row.key ≡ Less) rows → rows_below key rows ≡ []
rows_below-none key [] all = refl
rows_below-none key (row ∷ rows) all = rw (turned_less key row.key all.0) (rows_below-none key rows all.1)

rows_above-all : (key : List ℕ) (rows : List Row) → AllByRecursion (λ (row : Row). key_cmp key row.key ≡ Less) rows → rows_above key rows ≡ rows
rows_above-all key [] all = refl
rows_above-all key (row ∷ rows) all = rw (turned_less key row.key all.0) (ap (λ (more : List Row). row ∷ more) (rows_above-all key rows all.1))

-- the deletion of a key without a value changes no row
changed-absent : (rows : List Row) (key : List ℕ) → IsRising rows → value_at rows key ≡ None → changed rows key Del ≡ rows
changed-absent [] key h none = refl
changed-absent (row ∷ rows) key h none = by (key_cmp row.key key) refl (λ rest. changed-absent rows key h.1 rest)
  where
    left : (r : Ordering) → key_cmp row.key key ≡ r → (if is_eq r then Some row.value else value_at rows key) ≡ None
    left r e = subst (λ s. (if is_eq s then Some row.value else value_at rows key) ≡ None) e none

    by : (r : Ordering) → key_cmp row.key key ≡ r → (value_at rows key ≡ None → changed rows key Del ≡ rows) → changed (row ∷ rows) key Del ≡ row ∷ rows
    by Less e more = rw e (ap (λ (others : List Row). row ∷ others) (more (left Less e)))
    by Equal e more = let some : Some row.value ≡ None = left Equal e in absurd cc
    by Greater e more =
        let first : key_cmp key row.key ≡ Less = turned_greater row.key key e in
        let all : AllByRecursion (λ (other : Row). key_cmp key other.key ≡ Less) (row ∷ rows) = (first, all-weaker (λ (other : Row). key_cmp row.key other.key ≡ Less) (λ (other : Row). key_cmp key other.key ≡ Less) (λ other lt. lt_lt key row.key other.key first lt) rows h.0) in
        rw (rows_below-none key (row ∷ rows) all, rows_above-all key (row ∷ rows) all) refl

-- so it is where no value was found
pub changed-no_value : (rows : List Row) (key : List ℕ) (found : Option (Bor (List ℕ))) → IsRising rows → option_copied found ≡ value_at rows key → is_some found ≡ false → changed rows key Del ≡ rows
changed-no_value rows key None rises is none = changed-absent rows key rises (sym is)
changed-no_value rows key (Some value) rises is none = absurd cc
