-- Rows that are merged into one run, or cut into parts: the begin, one more, the end. To know: merged-next, cut-next, cut-ended.
use Rattle.std.proofs.Common.{◌≡◌, ℕ, ◌+◌, ◌≤◌, Bool, true, false, List, [], ◌∷◌, ◌++◌, refl, sym, ap, subst, ◌∙◌, arith}
use Rattle.std.specs.Prelude.{nat_le, Option, Some, None}
use Rattle.std.specs.declared.cmp.Ordering.TheVariants.{Less}
use Rattle.std.proofs.lemmas.Bool.Decides.{nat_tests}
use Rattle.rdb_base.specs.Order.{key_cmp}
use Rattle.rdb_base.specs.Maps.{IsRising}
use Rattle.rdb_base.specs.Pages.{row_size}
use Rattle.rdb_base.specs.PageLaws.{rows_size}
use Rattle.rdb_base.specs.Runs.{AreBelow, pair_size, sizes}
use Rattle.rdb_base.specs.declared.limits.TheConstants.{PAIR_MAX}
use Rattle.rdb_base.specs.declared.row.Row.{Row}
use Rattle.rdb_base.specs.declared.pair.Pair.{Pair}
use Rattle.std.proofs.lemmas.List.{append-nil, append_assoc}
use Rattle.rdb_base.proofs.Lists.{all-back}
use Rattle.partition_plan.specs.declared.limits.TheConstants.{PART_MAX}
use Rattle.partition_plan.specs.Cuts.{cut_rows, cut_after, onto_first}
use Rattle.partition_plan.specs.Pieces.{put_pairs, run_of_rows, first_bound, pieces_from}
use Rattle.partition_plan.proofs.CutLemmas.{onto_first-append}
use Rattle.partition_plan.proofs.PieceLemmas.{put_pairs-append}
use Rattle.partition_merge.specs.declared.origin.Origin.{Origin}
use Rattle.partition_merge.specs.Merging.{pair_from, row_pair, IsNextRow}
use Rattle.partition_merge.specs.Pieces.{IsMerged, CutState, IsCut, some_run, open_piece, cut_with, pieces_in, cut_on}

-- ---- rows as pairs

sizes-put_pairs : (rows : List Row) → sizes (put_pairs rows) ≡ rows_size rows
sizes-put_pairs [] = refl
sizes-put_pairs (row ∷ rows) = ap (λ (n : ℕ). row_size row + n) (sizes-put_pairs rows)

rows_size-append : (xs ys : List Row) → rows_size (xs ++ ys) ≡ rows_size xs + rows_size ys
rows_size-append [] ys = omega arith
rows_size-append (x ∷ xs) ys = let rest = rows_size-append xs ys in omega (arith, rest)

some_run-put_pairs : (rows : List Row) → some_run (put_pairs rows) ≡ run_of_rows rows
some_run-put_pairs [] = refl
some_run-put_pairs (row ∷ rows) = refl

-- the rows of rising ones before a row are below it
below-rising : (rows left : List Row) (row : Row) → IsRising (rows ++ row ∷ left) → AreBelow (put_pairs rows) row.key
below-rising [] left row h = tt
below-rising (r ∷ rs) left row h = ((all-back (λ (other : Row). key_cmp r.key other.key ≡ Less) rs (row ∷ left) h.0).0, below-rising rs left row h.1)

rising-back : (xs ys : List Row) → IsRising (xs ++ ys) → IsRising ys
rising-back [] ys h = h
rising-back (x ∷ xs) ys h = rising-back xs ys h.1

-- ---- the next row, as it was read

pub next-row : (runs : List (List Pair)) (newer : List Pair) (before later : List Row) (o : Option Origin) (origin : Origin) → IsNextRow runs newer before o later → o ≡ Some origin → (row : Row) × (pair_from runs newer origin ≡ Some (row_pair row)) × (before ≡ (row ∷ later))
next-row runs newer before later o origin next is = subst (λ (p : Option Origin). IsNextRow runs newer before p later) is next

pub next-none : (runs : List (List Pair)) (newer : List Pair) (before later : List Row) (o : Option Origin) → IsNextRow runs newer before o later → o ≡ None → before ≡ []
next-none runs newer before later o next is = subst (λ (p : Option Origin). IsNextRow runs newer before p later) is next

-- a pair that was read is the row
pub read-row : (found : Option Pair) (p : Pair) (row : Row) → found ≡ Some (row_pair row) → found ≡ Some p → p ≡ row_pair row
read-row found p row a b = some_same p (row_pair row) (sym b ∙ a)
  where
    some_same : (x y : Pair) → Some x ≡ Some y → x ≡ y
    some_same x y e = cc

-- ---- one run

pub merged-begins : (all : List Row) → IsRising all → IsMerged all all []
merged-begins all rise = record { rows = []; run_is = refl; all_are = refl; rise = rise }

pub merged-below : (all left : List Row) (row : Row) (run : List Pair) → IsMerged all (row ∷ left) run → AreBelow run row.key
merged-below all left row run m = subst (λ ps. AreBelow ps row.key) (sym m.run_is) (below-rising m.rows left row m.rise)

pub merged-next : (all left : List Row) (row : Row) (run : List Pair) → IsMerged all (row ∷ left) run → IsMerged all left (run ++ row_pair row ∷ [])
merged-next all left row run m = record {
  rows = m.rows ++ row ∷ [];
  run_is = ap (λ ps. ps ++ row_pair row ∷ []) m.run_is ∙ sym (put_pairs-append m.rows (row ∷ []));
  all_are = append_assoc m.rows (row ∷ []) left ∙ m.all_are;
  rise = subst IsRising (sym (append_assoc m.rows (row ∷ []) left)) m.rise;
}

pub merged-ended : (all : List Row) (run : List Pair) → IsMerged all [] run → run ≡ put_pairs all
merged-ended all run m = m.run_is ∙ ap put_pairs (sym (append-nil m.rows) ∙ m.all_are)

-- ---- parts

-- a row that fits goes into the open part
cut_on-fits : (rows left : List Row) (row : Row) → nat_le (rows_size rows + row_size row) PART_MAX ≡ true → cut_on rows (row ∷ left) ≡ cut_on (rows ++ row ∷ []) left
cut_on-fits [] left row e = ap (λ (n : ℕ). onto_first (row ∷ []) (cut_after PART_MAX n left)) (none_more (row_size row))
  where
    none_more : (n : ℕ) → n ≡ n + 0
    none_more n = omega arith
cut_on-fits (r ∷ rs) left row e =
    ap (onto_first (r ∷ rs)) fits
    ∙ sym (onto_first-append (r ∷ rs) (row ∷ []) (cut_after PART_MAX (rows_size (r ∷ rs) + row_size row) left))
    ∙ ap (λ (n : ℕ). onto_first (r ∷ (rs ++ row ∷ [])) (cut_after PART_MAX n left)) sum
  where
    fits : cut_after PART_MAX (rows_size (r ∷ rs)) (row ∷ left) ≡ onto_first (row ∷ []) (cut_after PART_MAX (rows_size (r ∷ rs) + row_size row) left)
    fits = rw e refl

    sum : rows_size (r ∷ rs) + row_size row ≡ rows_size (r ∷ (rs ++ row ∷ []))
    sum = let more = rows_size-append rs (row ∷ []) in omega (arith, more)

-- one that does not fit closes it
cut_on-closes : (rs left : List Row) (r row : Row) → nat_le (rows_size (r ∷ rs) + row_size row) PART_MAX ≡ false → cut_on (r ∷ rs) (row ∷ left) ≡ (r ∷ rs) ∷ cut_on (row ∷ []) left
cut_on-closes rs left r row e =
    ap (onto_first (r ∷ rs)) closes
    ∙ (λ i. append-nil (r ∷ rs) i ∷ onto_first (row ∷ []) (cut_after PART_MAX (none_more (row_size row) i) left))
  where
    none_more : (n : ℕ) → n ≡ n + 0
    none_more n = omega arith

    closes : cut_after PART_MAX (rows_size (r ∷ rs)) (row ∷ left) ≡ [] ∷ onto_first (row ∷ []) (cut_after PART_MAX (row_size row) left)
    closes = rw e refl

cut_on-ended : (rows : List Row) → cut_on rows [] ≡ rows ∷ []
cut_on-ended [] = refl
cut_on-ended (r ∷ rs) = ap (λ (rows : List Row). rows ∷ []) (append-nil (r ∷ rs))

-- the part that a row begins has its key as bound
first_bound-begun : (row : Row) (left : List Row) → first_bound (cut_on (row ∷ []) left) ≡ row.key
first_bound-begun row left = by_parts (cut_after PART_MAX (rows_size (row ∷ [])) left)
  where
    by_parts : (parts : List (List Row)) → first_bound (onto_first (row ∷ []) parts) ≡ row.key
    by_parts [] = refl
    by_parts (part ∷ parts) = refl

pub cut-begins : (low : List ℕ) (all : List Row) → IsRising all → IsCut low all all (record { closed = []; low = low; part = [] })
cut-begins low all rise = record { rows = []; part_is = refl; rise = rise; pieces = refl }

pub cut-below : (low : List ℕ) (all left : List Row) (row : Row) (cut : CutState) → IsCut low all (row ∷ left) cut → AreBelow cut.part row.key
cut-below low all left row cut c = subst (λ ps. AreBelow ps row.key) (sym c.part_is) (below-rising c.rows left row c.rise)

-- one row more
pub cut-next : (low : List ℕ) (all left : List Row) (row : Row) (cut : CutState) → IsCut low all (row ∷ left) cut → pair_size (row_pair row) ≤ PAIR_MAX → IsCut low all left (cut_with cut (row_pair row))
cut-next low all left row cut c small = by_test (nat_le (rows_size c.rows + row_size row) PART_MAX) refl
  where
    tested : nat_le (sizes cut.part + pair_size (row_pair row)) PART_MAX ≡ nat_le (rows_size c.rows + row_size row) PART_MAX
    tested = ap (λ (n : ℕ). nat_le (n + row_size row) PART_MAX) (ap sizes c.part_is ∙ sizes-put_pairs c.rows)

    fits : nat_le (rows_size c.rows + row_size row) PART_MAX ≡ true → IsCut low all left (record { closed = cut.closed; low = cut.low; part = cut.part ++ row_pair row ∷ [] })
    fits e = record {
      rows = c.rows ++ row ∷ [];
      part_is = ap (λ ps. ps ++ row_pair row ∷ []) c.part_is ∙ sym (put_pairs-append c.rows (row ∷ []));
      rise = subst IsRising (sym (append_assoc c.rows (row ∷ []) left)) c.rise;
      pieces = ap (λ (parts : List (List Row)). cut.closed ++ pieces_from cut.low parts) (sym (cut_on-fits c.rows left row e)) ∙ c.pieces;
    }

    closes : (rows : List Row) → cut.part ≡ put_pairs rows → cut.closed ++ pieces_from cut.low (cut_on rows (row ∷ left)) ≡ pieces_from low (cut_rows PART_MAX all) → nat_le (rows_size rows + row_size row) PART_MAX ≡ false
        → IsCut low all left (record { closed = cut.closed ++ open_piece cut ∷ []; low = row.key; part = row_pair row ∷ [] })
    closes [] is pieces e = absurd (grind (arith, nat_tests))
    closes (r ∷ rs) is pieces e = record {
      rows = row ∷ [];
      part_is = refl;
      rise = rising-back c.rows (row ∷ left) c.rise;
      pieces =
          append_assoc cut.closed (open_piece cut ∷ []) (pieces_from row.key (cut_on (row ∷ []) left))
          ∙ (λ i. cut.closed ++ record { low = cut.low; keeps_old = false; run = run_is i } ∷ pieces_from (sym (first_bound-begun row left) i) (cut_on (row ∷ []) left))
          ∙ ap (λ (parts : List (List Row)). cut.closed ++ pieces_from cut.low parts) (sym (cut_on-closes rs left r row e))
          ∙ pieces;
    }
      where
        run_is : some_run cut.part ≡ run_of_rows (r ∷ rs)
        run_is = ap some_run is ∙ some_run-put_pairs (r ∷ rs)

    by_test : (b : Bool) → nat_le (rows_size c.rows + row_size row) PART_MAX ≡ b → IsCut low all left (cut_with cut (row_pair row))
    by_test true e = rw (tested ∙ e) (fits e)
    by_test false e = rw (tested ∙ e) (closes c.rows c.part_is c.pieces e)

-- all rows are cut
pub cut-ended : (low : List ℕ) (all : List Row) (cut : CutState) → IsCut low all [] cut → pieces_in cut ≡ pieces_from low (cut_rows PART_MAX all)
cut-ended low all cut c =
    (λ i. cut.closed ++ record { low = cut.low; keeps_old = false; run = run_is i } ∷ [])
    ∙ ap (λ (parts : List (List Row)). cut.closed ++ pieces_from cut.low parts) (sym (cut_on-ended c.rows))
    ∙ c.pieces
  where
    run_is : some_run cut.part ≡ run_of_rows c.rows
    run_is = ap some_run c.part_is ∙ some_run-put_pairs c.rows
