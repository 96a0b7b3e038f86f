-- What a compaction has made of a partition: rows that are being cut into parts, and what holds of the pieces.
use Rattle.std.specs.Prelude.{◌≡◌, ℕ, ◌+◌, false, nat_le, List, [], ◌∷◌, ◌++◌, Option, Some, None, if◌then◌else◌}
use Rattle.rdb_base.specs.Maps.{IsRising}
use Rattle.rdb_base.specs.PageLaws.{rows_size}
use Rattle.rdb_base.specs.Runs.{pair_size, sizes}
use Rattle.rdb_base.specs.declared.row.Row.{Row}
use Rattle.rdb_base.specs.declared.pair.Pair.{Pair}
use Rattle.partition_plan.specs.declared.limits.TheConstants.{PART_MAX}
use Rattle.partition_plan.specs.Cuts.{cut_rows, cut_after, onto_first}
use Rattle.partition_plan.specs.declared.decision.Decision.{Decision}
use Rattle.partition_plan.specs.Pieces.{PieceState, put_pairs, pieces_from, carried_of}
use Rattle.partition_plan.specs.Compactions.{IsWithin, AreParts, piece_parts}
use Rattle.partition_plan.specs.CompactionLaws.{KeepsPart}

-- ---- rows that are being merged into one run

-- a run, where it has a pair
abbrev pub some_run : List Pair → Option (List Pair)
some_run [] = None
some_run (pair ∷ pairs) = Some (pair ∷ pairs)

-- this run has the rows before those that are left
pub record IsMerged (all left : List Row) (run : List Pair) : Type 0 where
  pub rows : List Row
  pub run_is : run ≡ put_pairs rows
  pub all_are : rows ++ left ≡ all
  pub rise : IsRising (rows ++ left)

-- ---- rows that are being cut into parts

-- the pieces that are closed, and the low bound and the pairs of the open part
pub record CutState : Type 0 where
  pub closed : List PieceState
  pub low : List ℕ
  pub part : List Pair

-- the open part as a piece
abbrev pub open_piece : CutState → PieceState
open_piece cut = record { low = cut.low; keeps_old = false; run = some_run cut.part }

-- one row more: it goes into the open part, or closes that and begins the next one
abbrev pub cut_with : CutState → Pair → CutState
cut_with cut pair =
    if nat_le (sizes cut.part + pair_size pair) PART_MAX
    then record { closed = cut.closed; low = cut.low; part = cut.part ++ pair ∷ [] }
    else record { closed = cut.closed ++ open_piece cut ∷ []; low = pair.key; part = pair ∷ [] }

-- the pieces of all parts, the open one last
abbrev pub pieces_in : CutState → List PieceState
pieces_in cut = cut.closed ++ open_piece cut ∷ []

-- the open part with what it takes of the rows that are left, and the parts after it
abbrev pub cut_on : List Row → List Row → List (List Row)
cut_on [] left = cut_rows PART_MAX left
cut_on (row ∷ rows) left = onto_first (row ∷ rows) (cut_after PART_MAX (rows_size (row ∷ rows)) left)

-- rows cut from a low bound on, where these are left of them
pub record IsCut (low : List ℕ) (all left : List Row) (cut : CutState) : Type 0 where
  pub rows : List Row
  pub part_is : cut.part ≡ put_pairs rows
  pub rise : IsRising (rows ++ left)
  pub pieces : cut.closed ++ pieces_from cut.low (cut_on rows left) ≡ pieces_from low (cut_rows PART_MAX all)

-- ---- what holds of the pieces of a partition

-- In whatever range the partition lies with the new pairs: the pieces' ranges follow one another from its low bound on, and
-- the rows of what is carried on over them are those of the new pairs above the old runs.
abbrev pub KeepsRows : Decision → List ℕ → List (List Pair) → List Pair → List PieceState → Type 0
KeepsRows decision low runs new pieces =
    (high : Option (List ℕ)) → AreParts high (record { low = low; runs = runs } ∷ []) → IsWithin low high new
    → KeepsPart high (record { low = low; runs = runs }) new (carried_of decision new) (piece_parts runs pieces)
