-- What a decision makes of one partition: its pieces, and what is carried on.
use Rattle.std.specs.Prelude.{ℕ, Bool, true, false, List, [], ◌∷◌, Option, Some, None, if◌then◌else◌}
use Rattle.rdb_base.specs.Levels.{merged}
use Rattle.rdb_base.specs.declared.row.Row.{Row}
use Rattle.rdb_base.specs.declared.change.Change.TheVariants.{Put}
use Rattle.rdb_base.specs.declared.pair.Pair.{Pair}
use Rattle.partition_plan.specs.declared.limits.TheConstants.{PART_MAX}
use Rattle.partition_plan.specs.declared.decision.Decision.{Decision}
use Rattle.partition_plan.specs.declared.decision.Decision.TheVariants.{Abort, Minor, Major, Split}
use Rattle.partition_plan.specs.Cuts.{cut_rows}

-- a partition that comes of another: its low bound, whether the old runs stay below it, and its new run, where it has one
pub record PieceState : Type 0 where
  pub low : List ℕ
  pub keeps_old : Bool
  pub run : Option (List Pair)

-- rows as the pairs that put them
abbrev pub put_pairs : List Row → List Pair
put_pairs [] = []
put_pairs (row ∷ rows) = record { key = row.key; change = Put row.value } ∷ put_pairs rows

-- the run of a part; a part without rows has none
abbrev pub run_of_rows : List Row → Option (List Pair)
run_of_rows [] = None
run_of_rows (row ∷ rows) = Some (put_pairs (row ∷ rows))

-- the first key of these rows
abbrev pub first_key : List Row → List ℕ
first_key [] = []
first_key (row ∷ rows) = row.key

-- the first key of the first part
abbrev pub first_bound : List (List Row) → List ℕ
first_bound [] = []
first_bound (part ∷ parts) = first_key part

-- a piece for each part: the first one has this low bound, each further one its own first key
abbrev pub pieces_from : List ℕ → List (List Row) → List PieceState
pieces_from low [] = []
pieces_from low (part ∷ parts) = record { low = low; keeps_old = false; run = run_of_rows part } ∷ pieces_from (first_bound parts) parts

-- the parts of the rows that a decision leaves of several runs, the newest first
abbrev pub major_parts : List (List Pair) → List (List Row)
major_parts runs = merged runs ∷ []

abbrev pub split_parts : List (List Pair) → List (List Row)
split_parts runs = cut_rows PART_MAX (merged runs)

-- the pieces of a partition that has this low bound, these runs, the newest first, and new pairs above them
abbrev pub pieces_of : Decision → List ℕ → List (List Pair) → List Pair → List PieceState
pieces_of Abort low runs new = record { low = low; keeps_old = true; run = None } ∷ []
pieces_of Minor low runs new = record { low = low; keeps_old = true; run = Some new } ∷ []
pieces_of Major low runs new = pieces_from low (major_parts (new ∷ runs))
pieces_of Split low runs new = pieces_from low (split_parts (new ∷ runs))

-- the new pairs that a decision carries on
abbrev pub carried_of : Decision → List Pair → List Pair
carried_of Abort new = new
carried_of Minor new = []
carried_of Major new = []
carried_of Split new = []

-- ---- the runs of a piece

-- a new run above others, where there is one
abbrev pub with_run : Option (List Pair) → List (List Pair) → List (List Pair)
with_run None runs = runs
with_run (Some run) runs = run ∷ runs

-- the runs of a piece, the newest first, where these are the old ones
abbrev pub runs_of_piece : List (List Pair) → PieceState → List (List Pair)
runs_of_piece old piece = with_run piece.run (if piece.keeps_old then old else [])

-- the new runs of pieces, in the order in which their files are numbered
abbrev pub new_runs : List PieceState → List (List Pair)
new_runs [] = []
new_runs (piece ∷ pieces) = with_run piece.run (new_runs pieces)
