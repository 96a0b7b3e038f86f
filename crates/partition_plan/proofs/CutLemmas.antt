-- Rows cut into parts. To know: `onto_first-append`, `cut_after-fits`, `cut_after-closes`, `joined_rows-cut_rows`, `cut_rows-full`.
use Rattle.std.proofs.Common.{◌≡◌, ℕ, ◌+◌, ◌≤◌, ◌<◌, Bool, true, false, cond, List, [], ◌∷◌, ◌++◌, refl, ap, subst, ◌∙◌, arith}
use Rattle.std.specs.Prelude.{nat_le}
use Rattle.std.specs.List.{AllByRecursion}
use Rattle.std.proofs.lemmas.Bool.{le-leb, lt-leb}
use Rattle.std.proofs.lemmas.Bool.Decides.{nat_tests}
use Rattle.std.proofs.lemmas.List.{append_assoc}
use Rattle.std.proofs.Math.Nat.{add_assoc}
use Rattle.rdb_base.specs.Pages.{row_size}
use Rattle.rdb_base.specs.PageLaws.{rows_size}
use Rattle.rdb_base.specs.declared.row.Row.{Row}
use Rattle.partition_plan.specs.Cuts.{onto_first, cut_after, cut_rows, joined_rows}
use Rattle.partition_plan.specs.CutLaws.{CutKeepsRows, PartsFit, HasRow, PartsHaveRows, IsOver, AreFull, PartsAreFull}

-- ---- the first part

-- rows before the first part, in two steps
pub onto_first-append : (xs ys : List Row) (parts : List (List Row)) → onto_first (xs ++ ys) parts ≡ onto_first xs (onto_first ys parts)
onto_first-append xs ys [] = refl
onto_first-append xs ys (part ∷ parts) = ap (λ p. p ∷ parts) (append_assoc xs ys part)

pub joined_rows-onto_first : (xs : List Row) (parts : List (List Row)) → joined_rows (onto_first xs parts) ≡ xs ++ joined_rows parts
joined_rows-onto_first xs [] = refl
joined_rows-onto_first xs (part ∷ parts) = append_assoc xs part (joined_rows parts)

-- ---- one row more

abbrev pub takes : ℕ → ℕ → Row → List Row → List (List Row)
takes most size row rows = onto_first (row ∷ []) (cut_after most (size + row_size row) rows)

abbrev pub closes : ℕ → Row → List Row → List (List Row)
closes most row rows = [] ∷ onto_first (row ∷ []) (cut_after most (row_size row) rows)

-- a row that fits goes to the open part
pub cut_after-fits : (most size : ℕ) (row : Row) (rows : List Row) → size + row_size row ≤ most
    → cut_after most size (row ∷ rows) ≡ onto_first (row ∷ []) (cut_after most (size + row_size row) rows)
cut_after-fits most size row rows le = ap (λ b. cond b (takes most size row rows) (closes most row rows)) (le-leb (size + row_size row) most le)

-- one that does not closes it and begins the next part
pub cut_after-closes : (most size : ℕ) (row : Row) (rows : List Row) → most < size + row_size row
    → cut_after most size (row ∷ rows) ≡ [] ∷ onto_first (row ∷ []) (cut_after most (row_size row) rows)
cut_after-closes most size row rows lt = ap (λ b. cond b (takes most size row rows) (closes most row rows)) (lt-leb (size + row_size row) most lt)

-- the first row begins the first part
pub cut_rows-cut_after : (most : ℕ) (row : Row) (rows : List Row) → cut_rows most (row ∷ rows) ≡ onto_first (row ∷ []) (cut_after most (row_size row) rows)
cut_rows-cut_after most row rows = refl

-- ---- the rows stay

pub joined_rows-cut_after : (most size : ℕ) (rows : List Row) → joined_rows (cut_after most size rows) ≡ rows
joined_rows-cut_after most size [] = refl
joined_rows-cut_after most size (row ∷ rows) = by_test (nat_le (size + row_size row) most) (λ n. joined_rows-cut_after most n rows)
  where
    by_test : (b : Bool) → ((n : ℕ) → joined_rows (cut_after most n rows) ≡ rows) → joined_rows (cond b (takes most size row rows) (closes most row rows)) ≡ row ∷ rows
    by_test true rest = joined_rows-onto_first (row ∷ []) (cut_after most (size + row_size row) rows) ∙ ap (λ r. row ∷ r) (rest (size + row_size row))
    by_test false rest = joined_rows-onto_first (row ∷ []) (cut_after most (row_size row) rows) ∙ ap (λ r. row ∷ r) (rest (row_size row))

pub joined_rows-cut_rows : CutKeepsRows
joined_rows-cut_rows most [] = refl
joined_rows-cut_rows most (row ∷ rows) = joined_rows-onto_first (row ∷ []) (cut_after most (row_size row) rows) ∙ ap (λ rest. row ∷ rest) (joined_rows-cut_after most (row_size row) rows)

-- ---- what holds of the parts: of the first one with the rows that are before it, and of each further one

abbrev pub Further : (List Row → Type 0) → (List Row → Type 0) → List (List Row) → Type 0
Further P Q [] = ⊥
Further P Q (part ∷ parts) = P part × AllByRecursion Q parts

further-onto : (P Q : List Row → Type 0) (row : Row) (parts : List (List Row)) → Further (λ part. P (row ∷ part)) Q parts → Further P Q (onto_first (row ∷ []) parts)
further-onto P Q row [] h = absurd h
further-onto P Q row (part ∷ parts) h = h

further-all : (P : List Row → Type 0) (parts : List (List Row)) → Further P P parts → AllByRecursion P parts
further-all P [] h = absurd h
further-all P (part ∷ parts) h = h

-- no part is empty
cut_after-rows : (most size : ℕ) (rows : List Row) → Further (λ part. Unit {0}) HasRow (cut_after most size rows)
cut_after-rows most size [] = (tt, tt)
cut_after-rows most size (row ∷ rows) = by_test (nat_le (size + row_size row) most) (λ n. cut_after-rows most n rows)
  where
    by_test : (b : Bool) → ((n : ℕ) → Further (λ part. Unit {0}) HasRow (cut_after most n rows)) → Further (λ part. Unit {0}) HasRow (cond b (takes most size row rows) (closes most row rows))
    by_test true rest = further-onto (λ part. Unit {0}) HasRow row (cut_after most (size + row_size row) rows) (rest (size + row_size row))
    by_test false rest = (tt, further-all HasRow (onto_first (row ∷ []) (cut_after most (row_size row) rows)) (further-onto HasRow HasRow row (cut_after most (row_size row) rows) (rest (row_size row))))

pub cut_rows-rows : PartsHaveRows
cut_rows-rows most row rows = further-all HasRow (cut_rows most (row ∷ rows)) (further-onto HasRow HasRow row (cut_after most (row_size row) rows) (cut_after-rows most (row_size row) rows))

-- no part is too large
abbrev pub Fits : ℕ → List Row → Type 0
Fits most part = rows_size part ≤ most

-- with so much before it
abbrev pub FitsAfter : ℕ → ℕ → List Row → Type 0
FitsAfter most size part = size + rows_size part ≤ most

fits-first : (most : ℕ) (row : Row) (parts : List (List Row)) → Further (FitsAfter most (row_size row)) (Fits most) parts → AllByRecursion (Fits most) (onto_first (row ∷ []) parts)
fits-first most row [] h = absurd h
fits-first most row (part ∷ parts) h = h

fits-onto : (most size : ℕ) (row : Row) (parts : List (List Row)) → Further (FitsAfter most (size + row_size row)) (Fits most) parts → Further (FitsAfter most size) (Fits most) (onto_first (row ∷ []) parts)
fits-onto most size row [] h = absurd h
fits-onto most size row (part ∷ parts) h = (subst (λ n. n ≤ most) (add_assoc size (row_size row) (rows_size part)) h.0, h.1)

cut_after-fit : (most size : ℕ) (rows : List Row) → size ≤ most → AllByRecursion (λ (row : Row). row_size row ≤ most) rows → Further (FitsAfter most size) (Fits most) (cut_after most size rows)
cut_after-fit most size [] le all = (omega (arith, le), tt)
cut_after-fit most size (row ∷ rows) le all = by_test (nat_le (size + row_size row) most) refl (λ n fits. cut_after-fit most n rows fits all.1)
  where
    by_test : (b : Bool) → nat_le (size + row_size row) most ≡ b → ((n : ℕ) → n ≤ most → Further (FitsAfter most n) (Fits most) (cut_after most n rows))
        → Further (FitsAfter most size) (Fits most) (cond b (takes most size row rows) (closes most row rows))
    by_test true e rest =
        let fits : size + row_size row ≤ most = grind (arith, nat_tests) in
        fits-onto most size row (cut_after most (size + row_size row) rows) (rest (size + row_size row) fits)
    by_test false e rest = (omega (arith, le), fits-first most row (cut_after most (row_size row) rows) (rest (row_size row) all.0))

pub cut_rows-fit : PartsFit
cut_rows-fit most [] all = (omega arith, tt)
cut_rows-fit most (row ∷ rows) all = fits-first most row (cut_after most (row_size row) rows) (cut_after-fit most (row_size row) rows all.0 all.1)

-- ---- each part ends where it had to

-- of the first part so much is there already
abbrev pub AreFullAfter : ℕ → ℕ → List (List Row) → Type 0
AreFullAfter most size [] = Unit {0}
AreFullAfter most size (part ∷ []) = Unit {0}
AreFullAfter most size (part ∷ next ∷ parts) = IsOver most (size + rows_size part) next × AreFull most (next ∷ parts)

full-onto : (most size : ℕ) (row : Row) (parts : List (List Row)) → AreFullAfter most (size + row_size row) parts → AreFullAfter most size (onto_first (row ∷ []) parts)
full-onto most size row [] h = tt
full-onto most size row (part ∷ []) h = tt
full-onto most size row (part ∷ next ∷ parts) h = (subst (λ n. IsOver most n next) (add_assoc size (row_size row) (rows_size part)) h.0, h.1)

full-first : (most : ℕ) (row : Row) (parts : List (List Row)) → AreFullAfter most (row_size row) parts → AreFull most (onto_first (row ∷ []) parts)
full-first most row [] h = tt
full-first most row (part ∷ []) h = tt
full-first most row (part ∷ next ∷ parts) h = h

full-closed : (most size : ℕ) (row : Row) (parts : List (List Row)) → most < size + 0 + row_size row → AreFull most (onto_first (row ∷ []) parts) → AreFullAfter most size ([] ∷ onto_first (row ∷ []) parts)
full-closed most size row [] over h = (over, h)
full-closed most size row (part ∷ parts) over h = (over, h)

cut_after-full : (most size : ℕ) (rows : List Row) → AreFullAfter most size (cut_after most size rows)
cut_after-full most size [] = tt
cut_after-full most size (row ∷ rows) = by_test (nat_le (size + row_size row) most) refl (λ n. cut_after-full most n rows)
  where
    by_test : (b : Bool) → nat_le (size + row_size row) most ≡ b → ((n : ℕ) → AreFullAfter most n (cut_after most n rows)) → AreFullAfter most size (cond b (takes most size row rows) (closes most row rows))
    by_test true e rest = full-onto most size row (cut_after most (size + row_size row) rows) (rest (size + row_size row))
    by_test false e rest =
        let over : most < size + row_size row = grind (arith, nat_tests) in
        full-closed most size row (cut_after most (row_size row) rows) (omega (arith, over)) (full-first most row (cut_after most (row_size row) rows) (rest (row_size row)))

pub cut_rows-full : PartsAreFull
cut_rows-full most [] = tt
cut_rows-full most (row ∷ rows) = full-first most row (cut_after most (row_size row) rows) (cut_after-full most (row_size row) rows)
