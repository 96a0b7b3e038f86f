-- An ordered map as the list of its rows, and what changes make of it.
use Rattle.std.specs.Prelude.{◌≡◌, ℕ, List, [], ◌∷◌, ◌++◌, filter, Option, Some, None, if◌then◌else◌}
use Rattle.std.specs.List.{AllByRecursion}
use Rattle.std.specs.Ordering.{is_lt, is_gt, is_eq}
use Rattle.std.specs.declared.cmp.Ordering.TheVariants.{Less}
use Rattle.rdb_base.specs.Order.{key_cmp}
use Rattle.rdb_base.specs.declared.row.Row.{Row}
use Rattle.rdb_base.specs.declared.change.Change.{Change}
use Rattle.rdb_base.specs.declared.change.Change.TheVariants.{Put, Del}
use Rattle.rdb_base.specs.declared.entry.Entry.{Entry}

-- a map: each row's key is below the keys of all rows after it
abbrev pub IsRising : List Row → Type 0
IsRising [] = Unit {0}
IsRising (row ∷ rows) = AllByRecursion (λ other. key_cmp row.key other.key ≡ Less) rows × IsRising rows

-- the rows whose key is below this one
abbrev pub rows_below : List ℕ → List Row → List Row
rows_below key rows = filter (λ row. is_lt (key_cmp row.key key)) rows

-- the rows whose key is above this one
abbrev pub rows_above : List ℕ → List Row → List Row
rows_above key rows = filter (λ row. is_gt (key_cmp row.key key)) rows

-- the value at a key, where there is a row with that key
abbrev pub value_at : List Row → List ℕ → Option (List ℕ)
value_at [] key = None
value_at (row ∷ rows) key = if is_eq (key_cmp row.key key) then Some row.value else value_at rows key

-- the map without the row of the key, and at a put with the new row in its place
abbrev pub changed : List Row → List ℕ → Change → List Row
changed rows key (Put value) = rows_below key rows ++ record { key = key; value = value } ∷ rows_above key rows
changed rows key Del = rows_below key rows ++ rows_above key rows

-- the map after an entry
abbrev pub applied : List Row → Entry → List Row
applied rows entry = changed rows entry.key entry.change

-- the map after these entries, the first of them first
abbrev pub applied_all : List Row → List Entry → List Row
applied_all rows [] = rows
applied_all rows (entry ∷ entries) = applied_all (applied rows entry) entries
