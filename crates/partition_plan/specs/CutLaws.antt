-- What holds of every cut of rows.
use Rattle.std.specs.Prelude.{◌≡◌, ℕ, ◌+◌, ◌≤◌, ◌<◌, List, [], ◌∷◌}
use Rattle.std.specs.List.{AllByRecursion}
use Rattle.rdb_base.specs.Pages.{row_size}
use Rattle.rdb_base.specs.PageLaws.{rows_size}
use Rattle.rdb_base.specs.declared.row.Row.{Row}
use Rattle.partition_plan.specs.Cuts.{cut_rows, joined_rows}

-- the parts have the rows, each once and in order
abbrev pub CutKeepsRows : Type 0
CutKeepsRows = (most : ℕ) (rows : List Row) → joined_rows (cut_rows most rows) ≡ rows

-- a part is not too large where no single row is
abbrev pub PartsFit : Type 0
PartsFit = (most : ℕ) (rows : List Row) → AllByRecursion (λ row. row_size row ≤ most) rows → AllByRecursion (λ part. rows_size part ≤ most) (cut_rows most rows)

-- there is a row
abbrev pub HasRow : List Row → Type 0
HasRow [] = ⊥
HasRow (row ∷ rows) = Unit {0}

-- where there are rows, no part is empty
abbrev pub PartsHaveRows : Type 0
PartsHaveRows = (most : ℕ) (row : Row) (rows : List Row) → AllByRecursion HasRow (cut_rows most (row ∷ rows))

-- the first row of a part would take one of this size above the most
abbrev pub IsOver : ℕ → ℕ → List Row → Type 0
IsOver most size [] = ⊥
IsOver most size (row ∷ rows) = most < size + row_size row

-- each part ends where the next one's first row had no room
abbrev pub AreFull : ℕ → List (List Row) → Type 0
AreFull most [] = Unit {0}
AreFull most (part ∷ []) = Unit {0}
AreFull most (part ∷ next ∷ parts) = IsOver most (rows_size part) next × AreFull most (next ∷ parts)

abbrev pub PartsAreFull : Type 0
PartsAreFull = (most : ℕ) (rows : List Row) → AreFull most (cut_rows most rows)
