-- Entries for rows, with one more row. To know: `puts-next`.
use Rattle.std.proofs.Common.{◌≡◌, ℕ, suc, ◌+◌, ◌<◌, List, [], ◌∷◌, ◌++◌, length, take, get_or, refl, ap, sym, ◌∙◌, arith}
use Rattle.std.proofs.lemmas.List.{take_more}
use Rattle.rdb_base.specs.declared.row.Row.{Row}
use Rattle.rdb_base.specs.declared.entry.Entry.{Entry}
use Rattle.rdb_base.specs.declared.change.Change.TheVariants.{Put}
use Rattle.front_callers.specs.Callers.{puts}

-- as many as the rows
pub length-puts : (caller n : ℕ) (rows : List Row) → length (puts caller n rows) ≡ length rows
length-puts caller n [] = refl
length-puts caller n (row ∷ rows) = ap suc (length-puts caller (n + 1) rows)

-- of rows with one more at the end
pub puts-push : (caller n : ℕ) (rows : List Row) (row : Row) → puts caller n (rows ++ row ∷ []) ≡ puts caller n rows ++ record { caller = caller; ordinal = n + length rows; key = row.key; change = Put row.value } ∷ []
puts-push caller n [] row = let same : n ≡ n + 0 = omega arith in ap (λ (k : ℕ). record { caller = caller; ordinal = k; key = row.key; change = Put row.value } ∷ []) same
puts-push caller n (r ∷ rows) row =
    let same : (n + 1) + length rows ≡ n + suc (length rows) = omega arith in
    ap (λ (l : List Entry). record { caller = caller; ordinal = n; key = r.key; change = Put r.value } ∷ l)
    (puts-push caller (n + 1) rows row ∙ ap (λ (k : ℕ). puts caller (n + 1) rows ++ record { caller = caller; ordinal = k; key = row.key; change = Put row.value } ∷ []) same)

-- the entries of the first so many rows, and of the next row
pub puts-next : (caller i : ℕ) (rows : List Row) (row : Row) → i < length rows → row ≡ get_or rows i row
    → puts caller 0 (take (i + 1) rows) ≡ puts caller 0 (take i rows) ++ record { caller = caller; ordinal = length (puts caller 0 (take i rows)); key = row.key; change = Put row.value } ∷ []
puts-next caller i rows row below is =
    let more : take (i + 1) rows ≡ take i rows ++ row ∷ [] = take_more rows i row below ∙ ap (λ (r : Row). take i rows ++ r ∷ []) (sym is) in
    let size : 0 + length (take i rows) ≡ length (puts caller 0 (take i rows)) = omega (arith, length-puts caller 0 (take i rows)) in
    ap (puts caller 0) more ∙ puts-push caller 0 (take i rows) row
    ∙ ap (λ (k : ℕ). puts caller 0 (take i rows) ++ record { caller = caller; ordinal = k; key = row.key; change = Put row.value } ∷ []) size
