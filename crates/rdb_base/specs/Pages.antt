-- What a listing gives of a map: the rows from a bound on, and one page of them.
use Rattle.std.specs.Prelude.{◌≡◌, ℕ, zero, suc, ◌-◌, pred, List, [], ◌∷◌, filter, not, nat_le, if◌then◌else◌}
use Rattle.std.specs.Ordering.{is_lt}
use Rattle.rdb_base.specs.Order.{key_cmp}
use Rattle.rdb_base.specs.PairFields.{size_of}
use Rattle.rdb_base.specs.declared.limits.TheConstants.{PAGE_BODY_MAX, PAGE_HEAD}
use Rattle.rdb_base.specs.declared.row.Row.{Row}
use Rattle.rdb_base.specs.declared.change.Change.TheVariants.{Put}
use Rattle.rdb_base.specs.declared.pair.Pair.{Pair}

-- the rows whose key is not below the bound
abbrev pub rows_from : List Row → List ℕ → List Row
rows_from rows bound = filter (λ row. not (is_lt (key_cmp row.key bound))) rows

-- the pairs whose key is not below the bound
abbrev pub pairs_from : List Pair → List ℕ → List Pair
pairs_from pairs bound = filter (λ pair. not (is_lt (key_cmp pair.key bound))) pairs

-- the size of a row, in bytes: that of a put of it
abbrev pub row_size : Row → ℕ
row_size row = size_of row.key (Put row.value)

-- the most rows from the front on that are so few and have room together
abbrev pub fitting : ℕ → ℕ → List Row → List Row
fitting zero room rows = []
fitting (suc few) room [] = []
fitting (suc few) room (row ∷ rows) = if nat_le (row_size row) room then row ∷ fitting few (room - row_size row) rows else []

-- the same, and in any case the first row
abbrev pub first_rows : ℕ → ℕ → List Row → List Row
first_rows few room [] = []
first_rows few room (row ∷ rows) = row ∷ fitting (pred few) (room - row_size row) rows

-- one page of a map: at most so many rows from the bound on, whose reply has a body of at most PAGE_BODY_MAX bytes
abbrev pub page : List Row → List ℕ → ℕ → List Row
page rows bound few = first_rows few (PAGE_BODY_MAX - PAGE_HEAD) (rows_from rows bound)

-- no row is left after a page
abbrev pub IsLastPage : List Row → List ℕ → ℕ → Type 0
IsLastPage rows bound few = page rows bound few ≡ rows_from rows bound
