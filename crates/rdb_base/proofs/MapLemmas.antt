-- Maps and what a change makes of them. To know: `IsRising-changed`, `value_at-changed_same`, `value_at-changed_other`.
use Rattle.std.proofs.Common.{◌≡◌, ◌≢◌, ℕ, Bool, true, false, cond, List, [], ◌∷◌, ◌++◌, Option, Some, None, refl, ap, ◌∙◌}
use Rattle.std.specs.Prelude.{filter}
use Rattle.std.specs.List.{AllByRecursion}
use Rattle.std.specs.Ordering.{is_lt, is_gt, is_eq}
use Rattle.std.specs.declared.cmp.Ordering.{Ordering}
use Rattle.std.specs.declared.cmp.Ordering.TheVariants.{Less, Equal, Greater}
use Rattle.rdb_base.specs.Order.{key_cmp}
use Rattle.rdb_base.specs.Maps.{IsRising, rows_below, rows_above, value_at, changed}
use Rattle.rdb_base.specs.Laws.{left_by}
use Rattle.rdb_base.specs.declared.row.Row.{Row}
use Rattle.rdb_base.specs.declared.change.Change.{Change}
use Rattle.rdb_base.specs.declared.change.Change.TheVariants.{Put, Del}
use Rattle.rdb_base.proofs.KeyOrder.{total, same_key, key_cmp-same, turned_less, turned_greater, less_from_test, greater_from_test}
use Rattle.rdb_base.proofs.Lists.{all-weaker, all-append, all-filter, all-filter_passes}

-- ---- rising keys

-- a row whose key is below this one, and one whose key is above it
abbrev pub Below : List ℕ → Row → Type 0
Below key row = key_cmp row.key key ≡ Less

abbrev pub Above : List ℕ → Row → Type 0
Above key row = key_cmp row.key key ≡ Greater

-- this row's key is below those of all of these
abbrev pub IsBelowAll : List Row → Row → Type 0
IsBelowAll rows row = AllByRecursion (λ other. key_cmp row.key other.key ≡ Less) rows

pub all_below : (key : List ℕ) (rows : List Row) → AllByRecursion (Below key) (rows_below key rows)
all_below key rows = all-weaker (λ (row : Row). is_lt (key_cmp row.key key) ≡ true) (Below key) (λ row e. less_from_test (key_cmp row.key key) e) (rows_below key rows) (all-filter_passes (λ (row : Row). is_lt (key_cmp row.key key)) rows)

pub all_above : (key : List ℕ) (rows : List Row) → AllByRecursion (Above key) (rows_above key rows)
all_above key rows = all-weaker (λ (row : Row). is_gt (key_cmp row.key key) ≡ true) (Above key) (λ row e. greater_from_test (key_cmp row.key key) e) (rows_above key rows) (all-filter_passes (λ (row : Row). is_gt (key_cmp row.key key)) rows)

pub IsRising-filter : (test : Row → Bool) (rows : List Row) → IsRising rows → IsRising (filter test rows)
IsRising-filter test [] h = tt
IsRising-filter test (row ∷ rows) h = by_test (test row) (IsRising-filter test rows h.1)
  where
    by_test : (b : Bool) → IsRising (filter test rows) → IsRising (cond b (row ∷ filter test rows) (filter test rows))
    by_test true g = (all-filter (λ (other : Row). key_cmp row.key other.key ≡ Less) test rows h.0, g)
    by_test false g = g

pub IsRising-append : (xs ys : List Row) → IsRising xs → IsRising ys → AllByRecursion (IsBelowAll ys) xs → IsRising (xs ++ ys)
IsRising-append [] ys h g below = g
IsRising-append (x ∷ xs) ys h g below = (all-append (λ (other : Row). key_cmp x.key other.key ≡ Less) xs ys h.0 below.0, IsRising-append xs ys h.1 g below.1)

-- a row below a key is below all rows above that key
below_above : (key : List ℕ) (ys : List Row) → AllByRecursion (Above key) ys → (x : Row) → Below key x → IsBelowAll ys x
below_above key ys high x low = all-weaker (Above key) (λ (y : Row). key_cmp x.key y.key ≡ Less) (λ y gt. total.trans x.key key y.key low (turned_greater y.key key gt)) ys high

pub IsRising-changed : (rows : List Row) (key : List ℕ) (change : Change) → IsRising rows → IsRising (changed rows key change)
IsRising-changed rows key (Put value) h =
    let low = IsRising-filter (λ (row : Row). is_lt (key_cmp row.key key)) rows h in
    let high = IsRising-filter (λ (row : Row). is_gt (key_cmp row.key key)) rows h in
    let row : Row = record { key = key; value = value } in
    let first : IsBelowAll (rows_above key rows) row = all-weaker (Above key) (λ (y : Row). key_cmp key y.key ≡ Less) (λ y gt. turned_greater y.key key gt) (rows_above key rows) (all_above key rows) in
    let later = below_above key (rows_above key rows) (all_above key rows) in
    IsRising-append (rows_below key rows) (row ∷ rows_above key rows) low (first, high)
    (all-weaker (Below key) (IsBelowAll (row ∷ rows_above key rows)) (λ x lt. (lt, later x lt)) (rows_below key rows) (all_below key rows))
IsRising-changed rows key Del h =
    let low = IsRising-filter (λ (row : Row). is_lt (key_cmp row.key key)) rows h in
    let high = IsRising-filter (λ (row : Row). is_gt (key_cmp row.key key)) rows h in
    let later = below_above key (rows_above key rows) (all_above key rows) in
    IsRising-append (rows_below key rows) (rows_above key rows) low high
    (all-weaker (Below key) (IsBelowAll (rows_above key rows)) later (rows_below key rows) (all_below key rows))

-- ---- the value at a key

-- the first that is there
abbrev pub or_else : Option (List ℕ) → Option (List ℕ) → Option (List ℕ)
or_else None other = other
or_else (Some value) other = Some value

pub value_at-append : (xs ys : List Row) (key : List ℕ) → value_at (xs ++ ys) key ≡ or_else (value_at xs key) (value_at ys key)
value_at-append [] ys key = refl
value_at-append (x ∷ xs) ys key = by_test (value_at-append xs ys key) (is_eq (key_cmp x.key key))
  where
    by_test : value_at (xs ++ ys) key ≡ or_else (value_at xs key) (value_at ys key) → (b : Bool) → cond b (Some x.value) (value_at (xs ++ ys) key) ≡ or_else (cond b (Some x.value) (value_at xs key)) (value_at ys key)
    by_test rest true = refl
    by_test rest false = rest

-- a test that passes every row of a key leaves the value there
pub value_at-filter_kept : (test : Row → Bool) (rows : List Row) (key : List ℕ) → ((row : Row) → key_cmp row.key key ≡ Equal → test row ≡ true) → value_at (filter test rows) key ≡ value_at rows key
value_at-filter_kept test [] key kept = refl
value_at-filter_kept test (row ∷ rows) key kept = by_order (value_at-filter_kept test rows key kept) (key_cmp row.key key) refl (test row) refl
  where
    by_order : value_at (filter test rows) key ≡ value_at rows key → (r : Ordering) → key_cmp row.key key ≡ r → (b : Bool) → test row ≡ b → value_at (cond b (row ∷ filter test rows) (filter test rows)) key ≡ cond (is_eq r) (Some row.value) (value_at rows key)
    by_order rest Equal e true t = rw e refl
    by_order rest Equal e false t = absurd (let k : test row ≡ true = kept row e in cc)
    by_order rest Less e true t = rw e rest
    by_order rest Less e false t = rest
    by_order rest Greater e true t = rw e rest
    by_order rest Greater e false t = rest

-- a test that passes no row of a key leaves no value there
pub value_at-filter_none : (test : Row → Bool) (rows : List Row) (key : List ℕ) → ((row : Row) → key_cmp row.key key ≡ Equal → test row ≡ false) → value_at (filter test rows) key ≡ None
value_at-filter_none test [] key gone = refl
value_at-filter_none test (row ∷ rows) key gone = by_order (value_at-filter_none test rows key gone) (key_cmp row.key key) refl (test row) refl
  where
    by_order : value_at (filter test rows) key ≡ None → (r : Ordering) → key_cmp row.key key ≡ r → (b : Bool) → test row ≡ b → value_at (cond b (row ∷ filter test rows) (filter test rows)) key ≡ None
    by_order rest r e false t = rest
    by_order rest Less e true t = rw e rest
    by_order rest Greater e true t = rw e rest
    by_order rest Equal e true t = absurd (let k : test row ≡ false = gone row e in cc)

-- rows of one key stand to another key as that key does
stands : (key other : List ℕ) (row : Row) (r : Ordering) → key_cmp row.key key ≡ Equal → key_cmp key other ≡ r → key_cmp row.key other ≡ r
stands key other row r e h = total.congr row.key key other e ∙ h

-- the value at a key, of the rows below another key and of those above it
below_at : (rows : List Row) (key other : List ℕ) (r : Ordering) → key_cmp key other ≡ r → value_at (rows_below other rows) key ≡ cond (is_lt r) (value_at rows key) None
below_at rows key other Less h = value_at-filter_kept (λ (row : Row). is_lt (key_cmp row.key other)) rows key (λ row e. ap is_lt (stands key other row Less e h))
below_at rows key other Equal h = value_at-filter_none (λ (row : Row). is_lt (key_cmp row.key other)) rows key (λ row e. ap is_lt (stands key other row Equal e h))
below_at rows key other Greater h = value_at-filter_none (λ (row : Row). is_lt (key_cmp row.key other)) rows key (λ row e. ap is_lt (stands key other row Greater e h))

above_at : (rows : List Row) (key other : List ℕ) (r : Ordering) → key_cmp key other ≡ r → value_at (rows_above other rows) key ≡ cond (is_gt r) (value_at rows key) None
above_at rows key other Less h = value_at-filter_none (λ (row : Row). is_gt (key_cmp row.key other)) rows key (λ row e. ap is_gt (stands key other row Less e h))
above_at rows key other Equal h = value_at-filter_none (λ (row : Row). is_gt (key_cmp row.key other)) rows key (λ row e. ap is_gt (stands key other row Equal e h))
above_at rows key other Greater h = value_at-filter_kept (λ (row : Row). is_gt (key_cmp row.key other)) rows key (λ row e. ap is_gt (stands key other row Greater e h))

-- at its key a map has what the change left there
pub value_at-changed_same : (rows : List Row) (key : List ℕ) (change : Change) → value_at (changed rows key change) key ≡ left_by change
value_at-changed_same rows key (Put value) =
    value_at-append (rows_below key rows) (record { key = key; value = value } ∷ rows_above key rows) key
    ∙ rw (below_at rows key key Equal (key_cmp-same key), key_cmp-same key) refl
value_at-changed_same rows key Del =
    value_at-append (rows_below key rows) (rows_above key rows) key
    ∙ rw (below_at rows key key Equal (key_cmp-same key), above_at rows key key Equal (key_cmp-same key)) refl

or_else-none : (o : Option (List ℕ)) → or_else o None ≡ o
or_else-none None = refl
or_else-none (Some value) = refl

turned_equal_no : (key other : List ℕ) (r : Ordering) → key_cmp key other ≡ r → is_eq r ≡ false → is_eq (key_cmp other key) ≡ false
turned_equal_no key other Less h e = ap is_eq (turned_less key other h)
turned_equal_no key other Greater h e = ap is_eq (turned_greater key other h)
turned_equal_no key other Equal h e = absurd cc

-- at every other key it has what it had
pub value_at-changed_other : (rows : List Row) (key other : List ℕ) (change : Change) → key ≢ other → value_at (changed rows other change) key ≡ value_at rows key
value_at-changed_other rows key other change ne = by_order (key_cmp key other) refl change
  where
    joined : (r : Ordering) → key_cmp key other ≡ r → is_eq r ≡ false → or_else (cond (is_lt r) (value_at rows key) None) (cond (is_gt r) (value_at rows key) None) ≡ value_at rows key
    joined Less h e = or_else-none (value_at rows key)
    joined Greater h e = refl
    joined Equal h e = absurd cc

    differ : (r : Ordering) → key_cmp key other ≡ r → is_eq r ≡ false
    differ Less h = refl
    differ Greater h = refl
    differ Equal h = absurd (ne (same_key key other h))

    by_order : (r : Ordering) → key_cmp key other ≡ r → (change : Change) → value_at (changed rows other change) key ≡ value_at rows key
    by_order r h (Put value) =
        value_at-append (rows_below other rows) (record { key = other; value = value } ∷ rows_above other rows) key
        ∙ rw (turned_equal_no key other r h (differ r h), below_at rows key other r h, above_at rows key other r h) (joined r h (differ r h))
    by_order r h Del =
        value_at-append (rows_below other rows) (rows_above other rows) key
        ∙ rw (below_at rows key other r h, above_at rows key other r h) (joined r h (differ r h))
