-- What holds of every page.
use Rattle.std.specs.Prelude.{◌≡◌, ◌⊎◌, ℕ, ◌+◌, ◌≤◌, ◌<◌, List, [], ◌∷◌, length}
use mathlib.Core.List.{IsPrefix}
use Rattle.rdb_base.specs.Pages.{rows_from, row_size, page}
use Rattle.rdb_base.specs.declared.limits.TheConstants.{PAGE_BODY_MAX, PAGE_HEAD}
use Rattle.rdb_base.specs.declared.row.Row.{Row}

-- the bytes of these rows together
abbrev pub rows_size : List Row → ℕ
rows_size [] = 0
rows_size (row ∷ rows) = row_size row + rows_size rows

-- so many rows at most, in a body of at most PAGE_BODY_MAX bytes
abbrev pub FitsPage : ℕ → List Row → Type 0
FitsPage few rows = (length rows ≤ few) × (PAGE_HEAD + rows_size rows ≤ PAGE_BODY_MAX)

-- a page is a beginning of the rows from the bound on
abbrev pub PageIsFront : Type 0
PageIsFront = (rows : List Row) (bound : List ℕ) (few : ℕ) → IsPrefix (page rows bound few) (rows_from rows bound)

-- it fits, or has one row alone
abbrev pub PageFits : Type 0
PageFits = (rows : List Row) (bound : List ℕ) (few : ℕ) → FitsPage few (page rows bound few) ⊎ (length (page rows bound few) ≡ 1)

-- no longer beginning fits
abbrev pub PageIsLongest : Type 0
PageIsLongest = (rows : List Row) (bound : List ℕ) (few : ℕ) (more : List Row) → IsPrefix more (rows_from rows bound) → FitsPage few more → length more ≤ length (page rows bound few)

-- where there is a row, the page has one
abbrev pub PageGoesOn : Type 0
PageGoesOn = (rows : List Row) (bound : List ℕ) (few : ℕ) → 0 < length (rows_from rows bound) → 0 < length (page rows bound few)
