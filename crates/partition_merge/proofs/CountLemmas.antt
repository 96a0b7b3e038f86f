-- The count of rows, one more and all. To know: count-begins, count-next, count-ended.
use Rattle.std.proofs.Common.{◌≡◌, ℕ, zero, suc, ◌+◌, ◌<◌, ◌≤◌, Bool, true, false, cond, List, [], ◌∷◌, length, refl, sym, ap, ◌∙◌, arith}
use Rattle.std.specs.Prelude.{◌&&◌, nat_lt, nat_le}
use Rattle.std.proofs.lemmas.Bool.Decides.{nat_tests}
use Rattle.rdb_base.specs.Pages.{row_size}
use Rattle.rdb_base.specs.PageLaws.{rows_size}
use Rattle.rdb_base.specs.declared.row.Row.{Row}
use Rattle.partition_plan.specs.declared.limits.TheConstants.{PART_MAX}
use Rattle.partition_plan.specs.Cuts.{cut_rows, cut_after, onto_first}
use Rattle.partition_merge.specs.declared.counted.Counted.{Counted}
use Rattle.partition_merge.specs.Merging.{within_u64}
use Rattle.partition_merge.specs.Counting.{IsCount, counted_with, cut_left, within_u32}

-- no list of parts is empty, and rows before the first add none
length-onto_first : (rows : List Row) (part : List Row) (parts : List (List Row)) → length (onto_first rows (part ∷ parts)) ≡ length (part ∷ parts)
length-onto_first rows part parts = refl

-- the parts of an open part's rows are at least one
some_parts : (most size : ℕ) (rows : List Row) → 1 ≤ length (cut_after most size rows)
some_parts most size [] = omega arith
some_parts most size (row ∷ rows) = by_test (nat_le (size + row_size row) most)
  where
    onto : (front : List Row) (parts : List (List Row)) → 1 ≤ length (onto_first front parts)
    onto front [] = omega arith
    onto front (part ∷ parts) = omega arith

    by_test : (b : Bool) → 1 ≤ length (cond b (onto_first (row ∷ []) (cut_after most (size + row_size row) rows)) ([] ∷ onto_first (row ∷ []) (cut_after most (row_size row) rows)))
    by_test true = onto (row ∷ []) (cut_after most (size + row_size row) rows)
    by_test false = omega arith

onto-length : (front : List Row) (parts : List (List Row)) → 1 ≤ length parts → length (onto_first front parts) ≡ length parts
onto-length front [] h = absurd (omega arith)
onto-length front (part ∷ parts) h = refl

-- a row that fits adds no part
pub length-cut_fits : (most size : ℕ) (row : Row) (rows : List Row) → nat_le (size + row_size row) most ≡ true → length (cut_after most size (row ∷ rows)) ≡ length (cut_after most (size + row_size row) rows)
length-cut_fits most size row rows e = rw e (onto-length (row ∷ []) (cut_after most (size + row_size row) rows) (some_parts most (size + row_size row) rows))

-- one that does not adds one
pub length-cut_closes : (most size : ℕ) (row : Row) (rows : List Row) → nat_le (size + row_size row) most ≡ false → length (cut_after most size (row ∷ rows)) ≡ 1 + length (cut_after most (row_size row) rows)
length-cut_closes most size row rows e = rw e (omega (arith, onto-length (row ∷ []) (cut_after most (row_size row) rows) (some_parts most (row_size row) rows)))

pub length-cut_first : (most : ℕ) (row : Row) (rows : List Row) → length (cut_rows most (row ∷ rows)) ≡ length (cut_after most (row_size row) rows)
length-cut_first most row rows = onto-length (row ∷ []) (cut_after most (row_size row) rows) (some_parts most (row_size row) rows)

-- a row has a size
pub some_size : (row : Row) → 6 ≤ row_size row
some_size row = omega arith

-- ---- the count

pub count-begins : (all : List Row) → IsCount all all (record { merged = 0; filled = 0; parts = 1 })
count-begins all = record {
  size = 0;
  filled = 0;
  parts = 1;
  merged_told = refl;
  filled_told = refl;
  parts_told = refl;
  sizes = omega arith;
  cut = refl;
}

-- an open part that has rows
cut_left-some : (n : ℕ) (rows : List Row) → 0 < n → cut_left n rows ≡ cut_after PART_MAX n rows
cut_left-some zero rows h = absurd (omega arith)
cut_left-some (suc n) rows h = refl

-- the parts after one row more
cut_left-next : (filled : ℕ) (row : Row) (left : List Row) (b : Bool) → (nat_lt 0 filled && nat_lt PART_MAX (filled + row_size row)) ≡ b
    → length (cut_left filled (row ∷ left)) ≡ cond b (1 + length (cut_left (row_size row) left)) (length (cut_left (filled + row_size row) left))
cut_left-next zero row left true e = absurd cc
cut_left-next zero row left false e = length-cut_first PART_MAX row left ∙ ap length (sym (cut_left-some (row_size row) left (omega (arith, some_size row)))) ∙ ap (λ n. length (cut_left n left)) (omega arith)
cut_left-next (suc n) row left true e =
    length-cut_closes PART_MAX (suc n) row left (grind (arith, nat_tests))
    ∙ ap (λ (m : ℕ). 1 + m) (ap length (sym (cut_left-some (row_size row) left (omega (arith, some_size row)))))
cut_left-next (suc n) row left false e =
    length-cut_fits PART_MAX (suc n) row left (grind (arith, nat_tests))
    ∙ ap length (sym (cut_left-some (suc n + row_size row) left (omega arith)))

-- two numbers that are above the same one or not
lt_same : (a b c : ℕ) → (a < b → a < c) → (a < c → a < b) → nat_lt a b ≡ nat_lt a c
lt_same a b c f g = by_tests (nat_lt a b) (nat_lt a c) refl refl
  where
    by_tests : (x y : Bool) → nat_lt a b ≡ x → nat_lt a c ≡ y → nat_lt a b ≡ nat_lt a c
    by_tests true true e d = e ∙ sym d
    by_tests false false e d = e ∙ sym d
    by_tests true false e d = let h : a < b = grind (arith, nat_tests) in let k = f h in absurd (grind (arith, nat_tests))
    by_tests false true e d = let h : a < c = grind (arith, nat_tests) in let k = g h in absurd (grind (arith, nat_tests))

-- the test of the numbers that stand still is that of the exact ones
same_test : (filled size : ℕ) → (nat_lt 0 (within_u64 filled) && nat_lt PART_MAX (within_u64 (within_u64 filled + within_u64 size))) ≡ (nat_lt 0 filled && nat_lt PART_MAX (filled + size))
same_test zero size = refl
same_test (suc n) size = (λ i. some i && same i) ∙ (λ i. sym also i && nat_lt PART_MAX (suc n + size))
  where
    some : nat_lt 0 (within_u64 (suc n)) ≡ true
    some = let h : 0 < within_u64 (suc n) = omega arith in grind (arith, nat_tests)

    also : nat_lt 0 (suc n) ≡ true
    also = let h : 0 < suc n = omega arith in grind (arith, nat_tests)

    same : nat_lt PART_MAX (within_u64 (within_u64 (suc n) + within_u64 size)) ≡ nat_lt PART_MAX (suc n + size)
    same = lt_same PART_MAX (within_u64 (within_u64 (suc n) + within_u64 size)) (suc n + size) (λ h. omega (arith, h)) (λ h. omega (arith, h))

-- one row more
pub count-next : (all left : List Row) (row : Row) (counted : Counted) (more : ℕ) → IsCount all (row ∷ left) counted → more ≡ within_u64 (row_size row) → IsCount all left (counted_with counted more)
count-next all left row counted more c e = by_test (nat_lt 0 c.filled && nat_lt PART_MAX (c.filled + row_size row)) refl
  where
    tested : (nat_lt 0 counted.filled && nat_lt PART_MAX (within_u64 (counted.filled + more))) ≡ (nat_lt 0 c.filled && nat_lt PART_MAX (c.filled + row_size row))
    tested = (λ i. nat_lt 0 (c.filled_told i) && nat_lt PART_MAX (within_u64 (c.filled_told i + e i))) ∙ same_test c.filled (row_size row)

    by_test : (b : Bool) → (nat_lt 0 c.filled && nat_lt PART_MAX (c.filled + row_size row)) ≡ b → IsCount all left (counted_with counted more)
    by_test true t =
        let next = cut_left-next c.filled row left true t in
        rw (tested ∙ t) (record {
          size = c.size + row_size row;
          filled = row_size row;
          parts = c.parts + 1;
          merged_told = omega (arith, c.merged_told, e);
          filled_told = e;
          parts_told = omega (arith, c.parts_told);
          sizes = omega (arith, c.sizes);
          cut = omega (arith, c.cut, next);
        })
    by_test false t =
        let next = cut_left-next c.filled row left false t in
        rw (tested ∙ t) (record {
          size = c.size + row_size row;
          filled = c.filled + row_size row;
          parts = c.parts;
          merged_told = omega (arith, c.merged_told, e);
          filled_told = omega (arith, c.filled_told, e);
          parts_told = c.parts_told;
          sizes = omega (arith, c.sizes);
          cut = omega (arith, c.cut, next);
        })

-- all rows are counted
pub count-size : (all : List Row) (counted : Counted) → IsCount all [] counted → counted.merged ≡ within_u64 (rows_size all)
count-size all counted c = omega (arith, c.merged_told, c.sizes)

pub count-parts : (all : List Row) (counted : Counted) → IsCount all [] counted → counted.parts ≡ within_u32 (length (cut_rows PART_MAX all))
count-parts all counted c = by_open c.filled c.cut
  where
    by_open : (filled : ℕ) → c.parts + length (cut_left filled []) ≡ 1 + length (cut_rows PART_MAX all) → counted.parts ≡ within_u32 (length (cut_rows PART_MAX all))
    by_open zero h = omega (arith, c.parts_told, h)
    by_open (suc n) h = omega (arith, c.parts_told, h)
