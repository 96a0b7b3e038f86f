-- The pieces of one partition. To know: `live-put_pairs`, `IsRun-put_pairs`, `pieces_from-level`, `pieces_from-parts`, `pieces-kept`.
use Rattle.std.proofs.Common.{◌≡◌, ℕ, true, List, [], ◌∷◌, ◌++◌, refl, sym, ap, subst, ◌∙◌}
use Rattle.std.specs.Prelude.{Option, Some, None}
use Rattle.std.specs.List.{AllByRecursion}
use Rattle.std.specs.declared.cmp.Ordering.TheVariants.{Less}
use Rattle.std.proofs.lemmas.List.{append-nil}
use Rattle.rdb_base.specs.Order.{key_cmp}
use Rattle.rdb_base.specs.Maps.{IsRising}
use Rattle.rdb_base.specs.Ranges.{IsBelow, in_range}
use Rattle.rdb_base.specs.Runs.{IsRun}
use Rattle.rdb_base.specs.Levels.{over, level_of, merged, live}
use Rattle.rdb_base.specs.Pages.{row_size}
use Rattle.rdb_base.specs.declared.change.Change.TheVariants.{Put}
use Rattle.rdb_base.specs.declared.row.Row.{Row}
use Rattle.rdb_base.specs.declared.pair.Pair.{Pair}
use Rattle.rdb_base.proofs.OrderLemmas.{le_lt, irreflexive, lt_not}
use Rattle.rdb_base.proofs.RangeLemmas.{range_from, range_to}
use Rattle.rdb_base.proofs.Lists.{all-front, all-back}
use Rattle.rdb_base.proofs.RunLemmas.{IsRun-level_of}
use Rattle.rdb_base.proofs.MergeLemmas.{over-none}
use Rattle.rdb_base.proofs.LiveLemmas.{all-live, IsRising-live}
use Rattle.partition_plan.specs.declared.limits.TheConstants.{PART_MAX}
use Rattle.partition_plan.specs.declared.decision.Decision.TheVariants.{Abort, Minor, Major, Split}
use Rattle.partition_plan.specs.Cuts.{onto_first, cut_after, cut_rows, joined_rows}
use Rattle.partition_plan.specs.CutLaws.{HasRow}
use Rattle.partition_plan.specs.Pieces.{put_pairs, run_of_rows, first_bound, pieces_from, with_run}
use Rattle.partition_plan.specs.Compactions.{next_low, IsWithin, IsPart, AreParts, parts_level, piece_parts}
use Rattle.partition_plan.specs.CompactionLaws.{PiecesKeepRows}
use Rattle.partition_plan.proofs.CutLemmas.{joined_rows-cut_rows, cut_rows-rows}
use Rattle.partition_plan.proofs.PartLemmas.{level-within}

-- ---- rows as the pairs that put them

pub live-put_pairs : (rows : List Row) → live (put_pairs rows) ≡ rows
live-put_pairs [] = refl
live-put_pairs (row ∷ rows) = ap (λ rest. row ∷ rest) (live-put_pairs rows)

pub put_pairs-append : (xs ys : List Row) → put_pairs (xs ++ ys) ≡ put_pairs xs ++ put_pairs ys
put_pairs-append [] ys = refl
put_pairs-append (x ∷ xs) ys = ap (λ rest. record { key = x.key; change = Put x.value } ∷ rest) (put_pairs-append xs ys)

pub all-put_pairs : (P : List ℕ → Type 0) (rows : List Row) → AllByRecursion (λ (row : Row). P row.key) rows → AllByRecursion (λ (pair : Pair). P pair.key) (put_pairs rows)
all-put_pairs P [] all = tt
all-put_pairs P (row ∷ rows) all = (all.0, all-put_pairs P rows all.1)

pub IsRun-put_pairs : (rows : List Row) → IsRising rows → IsRun (put_pairs rows)
IsRun-put_pairs [] rising = tt
IsRun-put_pairs (row ∷ rows) rising = (all-put_pairs (λ key. key_cmp row.key key ≡ Less) rows rising.0, IsRun-put_pairs rows rising.1)

-- ---- parts of rising rows

rising-front : (xs ys : List Row) → IsRising (xs ++ ys) → IsRising xs
rising-front [] ys rising = tt
rising-front (x ∷ xs) ys rising = (all-front (λ (y : Row). key_cmp x.key y.key ≡ Less) xs ys rising.0, rising-front xs ys rising.1)

rising-back : (xs ys : List Row) → IsRising (xs ++ ys) → IsRising ys
rising-back [] ys rising = rising
rising-back (x ∷ xs) ys rising = rising-back xs ys rising.1

-- the keys of the front are below the first key of the back
below-back : (xs : List Row) (y : Row) (ys : List Row) → IsRising (xs ++ y ∷ ys) → AllByRecursion (λ (x : Row). key_cmp x.key y.key ≡ Less) xs
below-back [] y ys rising = tt
below-back (x ∷ xs) y ys rising = ((all-back (λ (z : Row). key_cmp x.key z.key ≡ Less) xs (y ∷ ys) rising.0).0, below-back xs y ys rising.1)

pub parts-rise : (parts : List (List Row)) → IsRising (joined_rows parts) → AllByRecursion IsRising parts
parts-rise [] rising = tt
parts-rise (part ∷ parts) rising = (rising-front part (joined_rows parts) rising, parts-rise parts (rising-back part (joined_rows parts) rising))

-- ---- the pieces of parts

part-level : (part : List Row) → IsRising part → level_of (with_run (run_of_rows part) []) ≡ put_pairs part
part-level [] rising = refl
part-level (row ∷ rows) rising = over-none (put_pairs (row ∷ rows)) (IsRun-put_pairs (row ∷ rows) rising)

-- their level has just the rows
pub pieces_from-level : (old : List (List Pair)) (low : List ℕ) (parts : List (List Row)) → AllByRecursion IsRising parts → parts_level (piece_parts old (pieces_from low parts)) ≡ put_pairs (joined_rows parts)
pieces_from-level old low [] all = refl
pieces_from-level old low (part ∷ parts) all =
    (λ i. part-level part all.0 i ++ pieces_from-level old (first_bound parts) parts all.1 i) ∙ sym (put_pairs-append part (joined_rows parts))

-- rows of a range
abbrev pub AreWithin : List ℕ → Option (List ℕ) → List Row → Type 0
AreWithin low high rows = AllByRecursion (λ (row : Row). in_range low high row.key ≡ true) rows

-- a part in its range is a partition
part-is : (low : List ℕ) (high : Option (List ℕ)) (part : List Row) → IsRising part → AreWithin low high part → IsPart high (record { low = low; runs = with_run (run_of_rows part) [] })
part-is low high [] rising inside = record { rise = tt; inside = tt }
part-is low high (row ∷ rows) rising inside = record { rise = (IsRun-put_pairs (row ∷ rows) rising, tt); inside = (all-put_pairs (λ key. in_range low high key ≡ true) (row ∷ rows) inside, tt) }

-- rows after a key of their range lie from it on
within-later : (low : List ℕ) (high : Option (List ℕ)) (row : Row) (rows : List Row) → AllByRecursion (λ (other : Row). key_cmp row.key other.key ≡ Less) rows → AreWithin low high rows → AreWithin row.key high rows
within-later low high row [] above inside = tt
within-later low high row (other ∷ rows) above inside =
    (range_to row.key high other.key (lt_not row.key other.key above.0) (range_from low high other.key inside.0).1, within-later low high row rows above.1 inside.1)

-- the rows of a front part lie below the first key of the back
within-front : (low : List ℕ) (high : Option (List ℕ)) (next : Row) (part : List Row) → AllByRecursion (λ (x : Row). key_cmp x.key next.key ≡ Less) part → AreWithin low high part → AreWithin low (Some next.key) part
within-front low high next [] below inside = tt
within-front low high next (x ∷ part) below inside =
    (range_to low (Some next.key) x.key (range_from low high x.key inside.0).0 below.0, within-front low high next part below.1 inside.1)

-- the pieces follow one another, where no part is empty
pub pieces_from-parts : (old : List (List Pair)) (low : List ℕ) (high : Option (List ℕ)) (parts : List (List Row)) → AllByRecursion HasRow parts → IsRising (joined_rows parts) → AreWithin low high (joined_rows parts)
    → IsBelow high low → AreParts high (piece_parts old (pieces_from low parts))
pieces_from-parts old low high [] some rising inside bound = tt
pieces_from-parts old low high ([] ∷ parts) some rising inside bound = absurd some.0
pieces_from-parts old low high ((row ∷ rows) ∷ []) some rising inside bound =
    (part-is low high (row ∷ rows) (rising-front (row ∷ rows) [] rising) (all-front (λ (r : Row). in_range low high r.key ≡ true) (row ∷ rows) [] inside), bound, tt)
pieces_from-parts old low high ((row ∷ rows) ∷ [] ∷ parts) some rising inside bound = absurd some.1.0
pieces_from-parts old low high ((row ∷ rows) ∷ (next ∷ more) ∷ parts) some rising inside bound =
    let later = joined_rows ((next ∷ more) ∷ parts) in
    let below = below-back (row ∷ rows) next (more ++ joined_rows parts) rising in
    let rest = rising-back (row ∷ rows) later rising in
    let front = all-front (λ (r : Row). in_range low high r.key ≡ true) (row ∷ rows) later inside in
    let back = all-back (λ (r : Row). in_range low high r.key ≡ true) (row ∷ rows) later inside in
    let up = (range_from low high next.key back.0).1 in (
      part-is low (Some next.key) (row ∷ rows) (rising-front (row ∷ rows) later rising) (within-front low high next (row ∷ rows) below front),
      le_lt low row.key next.key (range_from low high row.key inside.0).0 below.0,
      pieces_from-parts old next.key high ((next ∷ more) ∷ parts) some.1 rest
          (range_to next.key high next.key (irreflexive next.key) up, within-later low high next (more ++ joined_rows parts) rest.0 back.1) up,
    )

-- ---- one partition

-- the rows that stay of it are rising, and lie in its range
merged-rising : (runs : List (List Pair)) → IsRising (merged runs)
merged-rising runs = IsRising-live (level_of runs) (IsRun-level_of runs)

merged-within : (low : List ℕ) (high : Option (List ℕ)) (runs : List (List Pair)) → AllByRecursion (IsWithin low high) runs → AreWithin low high (merged runs)
merged-within low high runs inside = all-live (λ key. in_range low high key ≡ true) (level_of runs) (level-within low high runs inside)

-- rows in parts, of which none is empty but the only one
parts-of_rows : (old : List (List Pair)) (low : List ℕ) (high : Option (List ℕ)) (parts : List (List Row)) (rows : List Row) → joined_rows parts ≡ rows → AllByRecursion HasRow parts → IsRising rows → AreWithin low high rows → IsBelow high low
    → AreParts high (piece_parts old (pieces_from low parts))
parts-of_rows old low high parts rows same some rising inside bound =
    pieces_from-parts old low high parts some (subst IsRising (sym same) rising) (subst (AreWithin low high) (sym same) inside) bound

cut-parts : (old : List (List Pair)) (low : List ℕ) (high : Option (List ℕ)) (rows : List Row) → IsRising rows → AreWithin low high rows → IsBelow high low → AreParts high (piece_parts old (pieces_from low (cut_rows PART_MAX rows)))
cut-parts old low high [] rising inside bound = (part-is low high [] tt tt, bound, tt)
cut-parts old low high (row ∷ rows) rising inside bound =
    parts-of_rows old low high (cut_rows PART_MAX (row ∷ rows)) (row ∷ rows) (joined_rows-cut_rows PART_MAX (row ∷ rows)) (cut_rows-rows PART_MAX row rows) rising inside bound

first-onto : (old : List (List Pair)) (low : List ℕ) (xs : List Row) (parts : List (List Row)) → next_low None (piece_parts old (pieces_from low (onto_first xs parts))) ≡ Some low
first-onto old low xs [] = refl
first-onto old low xs (part ∷ parts) = refl

cut-first : (old : List (List Pair)) (low : List ℕ) (rows : List Row) → next_low None (piece_parts old (pieces_from low (cut_rows PART_MAX rows))) ≡ Some low
cut-first old low [] = refl
cut-first old low (row ∷ rows) = first-onto old low (row ∷ []) (cut_after PART_MAX (row_size row) rows)

rows_kept : (old : List (List Pair)) (low : List ℕ) (parts : List (List Row)) (rows : List Row) → joined_rows parts ≡ rows → IsRising rows → live (parts_level (piece_parts old (pieces_from low parts))) ≡ rows
rows_kept old low parts rows same rising =
    ap live (pieces_from-level old low parts (parts-rise parts (subst IsRising (sym same) rising))) ∙ live-put_pairs (joined_rows parts) ∙ same

-- the pieces of a partition keep its rows, whatever was decided
pub pieces-kept : PiecesKeepRows
pieces-kept Abort high part new are run within = record {
  rows = ap (λ level. live (over new level)) (append-nil (level_of part.runs));
  first = refl;
  follow = (record { rise = are.0.rise; inside = are.0.inside }, are.1, tt);
  rises = run;
  inside = within;
}
pieces-kept Minor high part new are run within = record {
  rows = ap live (append-nil (over new (level_of part.runs)));
  first = refl;
  follow = (record { rise = (run, are.0.rise); inside = (within, are.0.inside) }, are.1, tt);
  rises = tt;
  inside = tt;
}
pieces-kept Major high part new are run within =
    let runs = new ∷ part.runs in
    let rising = merged-rising runs in
    let inside = merged-within part.low high runs (within, are.0.inside) in
    record {
      rows = rows_kept part.runs part.low (merged runs ∷ []) (merged runs) (append-nil (merged runs)) rising;
      first = refl;
      follow = (part-is part.low high (merged runs) rising inside, are.1, tt);
      rises = tt;
      inside = tt;
    }
pieces-kept Split high part new are run within =
    let runs = new ∷ part.runs in
    let rising = merged-rising runs in
    let inside = merged-within part.low high runs (within, are.0.inside) in
    record {
      rows = rows_kept part.runs part.low (cut_rows PART_MAX (merged runs)) (merged runs) (joined_rows-cut_rows PART_MAX (merged runs)) rising;
      first = cut-first part.runs part.low (merged runs);
      follow = cut-parts part.runs part.low high (merged runs) rising inside are.1;
      rises = tt;
      inside = tt;
    }
