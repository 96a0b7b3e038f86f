-- The cut of a split: rows in parts of at most some size.
use Rattle.std.specs.Prelude.{ℕ, ◌+◌, nat_le, List, [], ◌∷◌, ◌++◌, if◌then◌else◌}
use Rattle.rdb_base.specs.Pages.{row_size}
use Rattle.rdb_base.specs.declared.row.Row.{Row}

-- these rows before those of the first part
abbrev pub onto_first : List Row → List (List Row) → List (List Row)
onto_first rows [] = rows ∷ []
onto_first rows (part ∷ parts) = (rows ++ part) ∷ parts

-- What the open part, of which `size` bytes are there, takes of these rows, and then the parts after it:
-- a row that would take the open part above `most` closes it and begins the next one.
abbrev pub cut_after : ℕ → ℕ → List Row → List (List Row)
cut_after most size [] = [] ∷ []
cut_after most size (row ∷ rows) =
    if nat_le (size + row_size row) most then onto_first (row ∷ []) (cut_after most (size + row_size row) rows)
    else [] ∷ onto_first (row ∷ []) (cut_after most (row_size row) rows)

-- the parts of these rows; no rows are one part without a row
abbrev pub cut_rows : ℕ → List Row → List (List Row)
cut_rows most [] = [] ∷ []
cut_rows most (row ∷ rows) = onto_first (row ∷ []) (cut_after most (row_size row) rows)

-- the rows of all parts, in order
abbrev pub joined_rows : List (List Row) → List Row
joined_rows [] = []
joined_rows (part ∷ parts) = part ++ joined_rows parts
