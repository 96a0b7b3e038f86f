-- What holds of the pieces of a decision. To know: kept-pieces.
use Rattle.std.proofs.Common.{◌≡◌, ℕ, List, sym, subst}
use Rattle.std.specs.Prelude.{Result, Ok, Err, IfOk}
use Rattle.rdb_base.specs.Runs.{IsRun}
use Rattle.rdb_base.specs.declared.pair.Pair.{Pair}
use Rattle.partition_plan.specs.declared.decision.Decision.{Decision}
use Rattle.partition_plan.specs.Pieces.{PieceState, pieces_of, carried_of}
use Rattle.partition_plan.specs.Compactions.{piece_parts}
use Rattle.partition_plan.specs.CompactionLaws.{KeepsPart}
use Rattle.partition_plan.proofs.PieceLemmas.{pieces-kept}
use Rattle.partition_merge.specs.Pieces.{KeepsRows}

-- the pieces of a decision keep the rows
pub kept-pieces : {X E : Type 0} (items : X → List PieceState) (decision : Decision) (low : List ℕ) (runs : List (List Pair)) (new : List Pair) (result : Result X E) → IsRun new
    → IfOk result (λ x. items x ≡ pieces_of decision low runs new) → IfOk result (λ x. KeepsRows decision low runs new (items x))
kept-pieces items decision low runs new (Err e) run h = tt
kept-pieces items decision low runs new (Ok x) run h =
    λ high are within.
    subst (λ (pieces : List PieceState). KeepsPart high (record { low = low; runs = runs }) new (carried_of decision new) (piece_parts runs pieces)) (sym h)
    (pieces-kept decision high (record { low = low; runs = runs }) new are run within)
