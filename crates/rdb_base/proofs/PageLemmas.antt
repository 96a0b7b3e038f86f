-- Pages: the longest beginning that fits. To know: `fitting-front`, `fitting-fits`, `fitting-longest`.
use Rattle.std.proofs.Common.{◌≡◌, ◌⊎◌, inl, inr, ℕ, zero, suc, ◌+◌, ◌-◌, ◌≤◌, ◌<◌, Bool, true, false, cond, List, [], ◌∷◌, length, refl, ap, sym, arith}
use Rattle.std.specs.Prelude.{nat_le, pred}
use Rattle.std.proofs.lemmas.Bool.Decides.{nat_tests}
use mathlib.Core.List.{IsPrefix}
use Rattle.rdb_base.specs.Pages.{rows_from, row_size, fitting, first_rows, page}
use Rattle.rdb_base.specs.PageLaws.{rows_size, FitsPage, PageIsFront, PageFits, PageIsLongest, PageGoesOn}
use Rattle.rdb_base.specs.declared.limits.TheConstants.{PAGE_BODY_MAX, PAGE_HEAD}
use Rattle.rdb_base.specs.declared.row.Row.{Row}

-- a beginning with one row more before it
with_row : (row : Row) (xs ys : List Row) → IsPrefix xs ys → IsPrefix (row ∷ xs) (row ∷ ys)
with_row row xs ys p = (p.0, ap (λ zs. row ∷ zs) p.1)

-- what fits is a beginning
pub fitting-front : (few room : ℕ) (rows : List Row) → IsPrefix (fitting few room rows) rows
fitting-front zero room rows = (rows, refl)
fitting-front (suc few) room [] = ([], refl)
fitting-front (suc few) room (row ∷ rows) = by_test (nat_le (row_size row) room) (fitting-front few (room - row_size row) rows)
  where
    by_test : (b : Bool) → IsPrefix (fitting few (room - row_size row) rows) rows → IsPrefix (cond b (row ∷ fitting few (room - row_size row) rows) []) (row ∷ rows)
    by_test true rest = with_row row (fitting few (room - row_size row) rows) rows rest
    by_test false rest = (row ∷ rows, refl)

-- it has so few rows, and room
pub fitting-fits : (few room : ℕ) (rows : List Row) → (length (fitting few room rows) ≤ few) × (rows_size (fitting few room rows) ≤ room)
fitting-fits zero room rows = (omega arith, omega arith)
fitting-fits (suc few) room [] = (omega arith, omega arith)
fitting-fits (suc few) room (row ∷ rows) = by_test (nat_le (row_size row) room) refl (fitting-fits few (room - row_size row) rows)
  where
    by_test : (b : Bool) → nat_le (row_size row) room ≡ b → (length (fitting few (room - row_size row) rows) ≤ few) × (rows_size (fitting few (room - row_size row) rows) ≤ room - row_size row)
        → (length (cond b (row ∷ fitting few (room - row_size row) rows) []) ≤ suc few) × (rows_size (cond b (row ∷ fitting few (room - row_size row) rows) []) ≤ room)
    by_test true e rest = let le : row_size row ≤ room = grind (arith, nat_tests) in (omega (arith, rest.0), omega (arith, rest.1, le))
    by_test false e rest = (omega arith, omega arith)

-- each beginning that fits is no longer
pub fitting-longest : (few room : ℕ) (rows more : List Row) → IsPrefix more rows → length more ≤ few → rows_size more ≤ room → length more ≤ length (fitting few room rows)
fitting-longest few room rows [] p le fits = omega arith
fitting-longest zero room rows (x ∷ more) p le fits = absurd (omega arith)
fitting-longest (suc few) room [] (x ∷ more) p le fits = absurd (cc (p.1))
fitting-longest (suc few) room (row ∷ rows) (x ∷ more) p le fits =
    let first : x ≡ row = cc (p.1) in
    let size : row_size row ≡ row_size x = ap row_size (sym first) in
    by_test (nat_le (row_size row) room) refl size
    (fitting-longest few (room - row_size row) rows more (p.0, cc (p.1)) (omega arith) (omega (arith, size)))
  where
    by_test : (b : Bool) → nat_le (row_size row) room ≡ b → row_size row ≡ row_size x → length more ≤ length (fitting few (room - row_size row) rows)
        → suc (length more) ≤ length (cond b (row ∷ fitting few (room - row_size row) rows) [])
    by_test true e size rest = omega (arith, rest)
    by_test false e size rest = absurd (let no : room < row_size row = grind (arith, nat_tests) in omega (arith, no, size, fits))

-- ---- pages

first_rows-front : (few room : ℕ) (rows : List Row) → IsPrefix (first_rows few room rows) rows
first_rows-front few room [] = ([], refl)
first_rows-front few room (row ∷ rows) = with_row row (fitting (pred few) (room - row_size row) rows) rows (fitting-front (pred few) (room - row_size row) rows)

pub page-front : PageIsFront
page-front rows bound few = first_rows-front few (PAGE_BODY_MAX - PAGE_HEAD) (rows_from rows bound)

first_rows-fits : (few room : ℕ) (rows : List Row) → ((length (first_rows few room rows) ≤ few) × (rows_size (first_rows few room rows) ≤ room)) ⊎ (length (first_rows few room rows) ≡ 1)
first_rows-fits few room [] = inl (omega arith, omega arith)
first_rows-fits zero room (row ∷ rows) = inr refl
first_rows-fits (suc few) room (row ∷ rows) = by_test (nat_le (row_size row) room) refl
  where
    nothing_more : (n left : ℕ) (ys : List Row) → 0 < length (fitting n left ys) → 0 < left
    nothing_more zero left ys h = absurd (omega arith)
    nothing_more (suc n) left [] h = absurd (omega arith)
    nothing_more (suc n) left (y ∷ ys) h = by_room (nat_le (row_size y) left) refl h
      where
        positive : 0 < row_size y
        positive = omega arith

        by_room : (b : Bool) → nat_le (row_size y) left ≡ b → 0 < length (cond b (y ∷ fitting n (left - row_size y) ys) []) → 0 < left
        by_room true e g = let le : row_size y ≤ left = grind (arith, nat_tests) in omega (arith, le, positive)
        by_room false e g = absurd (omega arith)

    by_test : (b : Bool) → nat_le (row_size row) room ≡ b
        → ((suc (length (fitting few (room - row_size row) rows)) ≤ suc few) × (row_size row + rows_size (fitting few (room - row_size row) rows) ≤ room)) ⊎ (suc (length (fitting few (room - row_size row) rows)) ≡ 1)
    by_test true e =
        let le : row_size row ≤ room = grind (arith, nat_tests) in
        let rest = fitting-fits few (room - row_size row) rows in
        inl (omega (arith, rest.0), omega (arith, rest.1, le))
    by_test false e = inr (alone (length (fitting few (room - row_size row) rows)) refl)
      where
        alone : (n : ℕ) → length (fitting few (room - row_size row) rows) ≡ n → suc n ≡ 1
        alone zero l = refl
        alone (suc n) l =
            let lt : room < row_size row = grind (arith, nat_tests) in
            let more : 0 < room - row_size row = nothing_more few (room - row_size row) rows (omega (arith, l)) in
            absurd (omega (arith, lt, more))

pub page-fits : PageFits
page-fits rows bound few = by_part (first_rows-fits few (PAGE_BODY_MAX - PAGE_HEAD) (rows_from rows bound))
  where
    by_part : ((length (page rows bound few) ≤ few) × (rows_size (page rows bound few) ≤ PAGE_BODY_MAX - PAGE_HEAD)) ⊎ (length (page rows bound few) ≡ 1) → FitsPage few (page rows bound few) ⊎ (length (page rows bound few) ≡ 1)
    by_part (inl f) = inl (f.0, let r = f.1 in omega arith)
    by_part (inr one) = inr one

first_rows-longest : (few room : ℕ) (rows more : List Row) → IsPrefix more rows → length more ≤ few → rows_size more ≤ room → length more ≤ length (first_rows few room rows)
first_rows-longest few room rows [] p le fits = omega arith
first_rows-longest few room [] (x ∷ more) p le fits = absurd (cc (p.1))
first_rows-longest zero room (row ∷ rows) (x ∷ more) p le fits = absurd (omega arith)
first_rows-longest (suc few) room (row ∷ rows) (x ∷ more) p le fits =
    let first : x ≡ row = cc (p.1) in
    let size : row_size row ≡ row_size x = ap row_size (sym first) in
    let rest = fitting-longest few (room - row_size row) rows more (p.0, cc (p.1)) (omega arith) (omega (arith, size)) in
    omega (arith, rest)

pub page-longest : PageIsLongest
page-longest rows bound few more p fits = first_rows-longest few (PAGE_BODY_MAX - PAGE_HEAD) (rows_from rows bound) more p fits.0 (let f = fits.1 in omega arith)

first_rows-some : (few room : ℕ) (rows : List Row) → 0 < length rows → 0 < length (first_rows few room rows)
first_rows-some few room [] h = absurd (omega arith)
first_rows-some few room (row ∷ rows) h = omega arith

pub page-some : PageGoesOn
page-some rows bound few h = first_rows-some few (PAGE_BODY_MAX - PAGE_HEAD) (rows_from rows bound) h
