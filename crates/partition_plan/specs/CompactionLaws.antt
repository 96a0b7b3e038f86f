-- What holds of every compaction, whatever was decided.
use Rattle.std.specs.Prelude.{◌≡◌, ℕ, ◌≤◌, Bool, List, [], ◌∷◌, length, Option, Some, None}
use Rattle.std.specs.List.{AllByRecursion}
use Rattle.rdb_base.specs.Runs.{IsRun, sizes}
use Rattle.rdb_base.specs.Levels.{over, merged, live}
use Rattle.rdb_base.specs.declared.pair.Pair.{Pair}
use Rattle.partition_plan.specs.declared.limits.TheConstants.{CARRIED_MAX, RUNS_MAX, PARTITIONS_MAX}
use Rattle.partition_plan.specs.declared.decision.Decision.{Decision}
use Rattle.partition_plan.specs.declared.decision.Decision.TheVariants.{Abort}
use Rattle.partition_plan.specs.Pieces.{pieces_of, carried_of}
use Rattle.partition_plan.specs.Compactions.{PartRuns, next_low, IsWithin, AreParts, AreAllParts, parts_level, news, compacted, plan_of, compaction, all_carried, piece_parts, parts_after}

-- A partition and new pairs above it became what is carried on and these partitions: the rows are the same, the partitions
-- follow one another from the old low bound up to the old high one, and what is carried on is a run of its range.
pub record KeepsPart (high : Option (List ℕ)) (part : PartRuns) (new carried : List Pair) (after : List PartRuns) : Type 0 where
  pub rows : live (over carried (parts_level after)) ≡ merged (new ∷ part.runs)
  pub first : next_low None after ≡ Some part.low
  pub follow : AreParts high after
  pub rises : IsRun carried
  pub inside : IsWithin part.low high carried

-- so each decision does
abbrev pub PiecesKeepRows : Type 0
PiecesKeepRows = (decision : Decision) (high : Option (List ℕ)) (part : PartRuns) (new : List Pair)
    → AreParts high (part ∷ []) → IsRun new → IsWithin part.low high new
    → KeepsPart high part new (carried_of decision new) (piece_parts part.runs (pieces_of decision part.low part.runs new))

-- All partitions and new pairs above them became what is carried on and these partitions: the rows are the same, the
-- partitions have all keys, and what is carried on is a run.
pub record KeepsMap (parts : List PartRuns) (new carried : List Pair) (after : List PartRuns) : Type 0 where
  pub rows : live (over carried (parts_level after)) ≡ live (over new (parts_level parts))
  pub all : AreAllParts after
  pub rises : IsRun carried

-- so does each compaction
abbrev pub CompactionKeepsMap : Type 0
CompactionKeepsMap = (decisions : List Decision) (parts : List PartRuns) (new : List Pair) → AreAllParts parts → IsRun new
    → KeepsMap parts new (all_carried (compacted decisions parts (news parts new))) (parts_after parts (compacted decisions parts (news parts new)))

-- where each decision is an abort, the partitions stay as they are, and all new pairs are carried on
abbrev pub AreAborts : List Decision → Type 0
AreAborts decisions = AllByRecursion (λ decision. decision ≡ Abort) decisions

abbrev pub AbortsKeepAll : Type 0
AbortsKeepAll = (decisions : List Decision) (parts : List PartRuns) (new : List Pair) → AreAborts decisions → AreAllParts parts → IsRun new
    → (parts_after parts (compacted decisions parts (news parts new)) ≡ parts) × (all_carried (compacted decisions parts (news parts new)) ≡ new)

-- ---- new runs

-- a run that is there has a pair
abbrev pub HasPairs : Option (List Pair) → Type 0
HasPairs None = Unit {0}
HasPairs (Some []) = ⊥
HasPairs (Some (pair ∷ pairs)) = Unit {0}

-- each new run has a pair, where there is a new pair
abbrev pub NewRunsHavePairs : Type 0
NewRunsHavePairs = (decision : Decision) (low : List ℕ) (runs : List (List Pair)) (pair : Pair) (new : List Pair)
    → AllByRecursion (λ piece. HasPairs piece.run) (pieces_of decision low runs (pair ∷ new))

-- ---- after the compaction that was planned

-- there are at most PARTITIONS_MAX partitions, if there were before
abbrev pub PlanLeavesFewParts : Type 0
PlanLeavesFewParts = (may_abort : Bool) (parts : List PartRuns) (new : List Pair) (ages : List ℕ) → length parts ≤ PARTITIONS_MAX
    → length (parts_after parts (compaction (plan_of may_abort parts new ages) parts new)) ≤ PARTITIONS_MAX

abbrev pub HasFewRuns : PartRuns → Type 0
HasFewRuns part = length part.runs ≤ RUNS_MAX

-- no partition has more than RUNS_MAX runs, if none had before
abbrev pub PlanLeavesFewRuns : Type 0
PlanLeavesFewRuns = (may_abort : Bool) (parts : List PartRuns) (new : List Pair) (ages : List ℕ) → AllByRecursion HasFewRuns parts
    → AllByRecursion HasFewRuns (parts_after parts (compaction (plan_of may_abort parts new ages) parts new))

-- all pairs that are carried on have at most CARRIED_MAX bytes together
abbrev pub PlanCarriesLittle : Type 0
PlanCarriesLittle = (may_abort : Bool) (parts : List PartRuns) (new : List Pair) (ages : List ℕ)
    → sizes (all_carried (compaction (plan_of may_abort parts new ages) parts new)) ≤ CARRIED_MAX
