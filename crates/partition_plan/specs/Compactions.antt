-- Partitions, their new data, and what a whole compaction makes of them.
use Rattle.std.specs.Prelude.{◌≡◌, ℕ, ◌+◌, ◌-◌, Bool, true, false, List, [], ◌∷◌, ◌++◌, length, drop, get_or, Option, Some, None}
use Rattle.std.specs.List.{AllByRecursion, sum_by}
use Rattle.rdb_base.specs.Ranges.{in_range, IsBelow}
use Rattle.rdb_base.specs.Runs.{IsRun, sizes}
use Rattle.rdb_base.specs.Levels.{pairs_below, level_of, merged}
use Rattle.rdb_base.specs.Pages.{pairs_from}
use Rattle.rdb_base.specs.PageLaws.{rows_size}
use Rattle.rdb_base.specs.declared.pair.Pair.{Pair}
use Rattle.partition_plan.specs.declared.decision.Decision.{Decision}
use Rattle.partition_plan.specs.declared.decision.Decision.TheVariants.{Abort, Minor, Major, Split}
use Rattle.partition_plan.specs.declared.part_size.PartSize.{PartSize}
use Rattle.partition_plan.specs.Plans.{planned}
use Rattle.partition_plan.specs.Pieces.{PieceState, pieces_of, carried_of, runs_of_piece, split_parts}

-- ---- partitions

-- a partition: its low bound, and its runs, the newest first
pub record PartRuns : Type 0 where
  pub low : List ℕ
  pub runs : List (List Pair)

-- the bound after the first of some partitions: the next one's, or the one that is after all of them
abbrev pub next_low : Option (List ℕ) → List PartRuns → Option (List ℕ)
next_low high [] = high
next_low high (part ∷ parts) = Some part.low

-- the keys of a run are in a range
abbrev pub IsWithin : List ℕ → Option (List ℕ) → List Pair → Type 0
IsWithin low high pairs = AllByRecursion (λ pair. in_range low high pair.key ≡ true) pairs

-- a partition up to a high bound: its runs rise, and lie in its range
pub record IsPart (high : Option (List ℕ)) (part : PartRuns) : Type 0 where
  pub rise : AllByRecursion IsRun part.runs
  pub inside : AllByRecursion (IsWithin part.low high) part.runs

-- partitions whose ranges follow one another up to a high bound, without one up to the last key
abbrev pub AreParts : Option (List ℕ) → List PartRuns → Type 0
AreParts high [] = Unit {0}
AreParts high (part ∷ parts) = IsPart (next_low high parts) part × IsBelow (next_low high parts) part.low × AreParts high parts

-- partitions of all keys: the first bound is empty, so there is one
pub record AreAllParts (parts : List PartRuns) : Type 0 where
  pub first : next_low None parts ≡ Some []
  pub each : AreParts None parts

-- the level of partitions: at each key the newest change, deletions kept
abbrev pub parts_level : List PartRuns → List Pair
parts_level [] = []
parts_level (part ∷ parts) = level_of part.runs ++ parts_level parts

-- ---- new data

-- new pairs cut at the partitions' bounds: a list for each partition
abbrev pub news : List PartRuns → List Pair → List (List Pair)
news [] new = []
news (part ∷ []) new = new ∷ []
news (part ∷ next ∷ parts) new = pairs_below next.low new ∷ news (next ∷ parts) (pairs_from new next.low)

-- the age of new data: the number of the log segment in use less that of their oldest entry's, also of an overwritten one; 0 where
-- that is not known to be older
abbrev pub age_of : ℕ → Option ℕ → ℕ
age_of active None = 0
age_of active (Some oldest) = active - oldest

-- the sizes of the partition at an index with its new pairs, of this age
abbrev pub sizes_of : ℕ → PartRuns → List Pair → ℕ → PartSize
sizes_of index part new age =
    record {
      part = index;
      new = sizes new;
      carried_age = age;
      runs = length part.runs;
      held = sum_by sizes part.runs;
      merged = rows_size (merged (new ∷ part.runs));
      parts = length (split_parts (new ∷ part.runs));
    }

-- a member of the plan, where there are new pairs
abbrev pub member_of : ℕ → PartRuns → List Pair → ℕ → List PartSize
member_of index part [] age = []
member_of index part (pair ∷ new) age = sizes_of index part (pair ∷ new) age ∷ []

-- the members of the plan from an index on, in key order; new pairs and ages stand in the order of the partitions
abbrev pub members_of : ℕ → List PartRuns → List (List Pair) → List ℕ → List PartSize
members_of index [] news ages = []
members_of index (part ∷ parts) news ages = member_of index part (get_or news 0 []) (get_or ages 0 0) ++ members_of (index + 1) parts (drop 1 news) (drop 1 ages)

-- the plan for partitions, new data above them and the ages of these
abbrev pub plan_of : Bool → List PartRuns → List Pair → List ℕ → List Decision
plan_of may_abort parts new ages = planned may_abort 0 (length parts) (members_of 0 parts (news parts new) ages)

-- a decision for each partition: the plan's next one where there are new pairs, else an abort, which leaves it as it is
abbrev pub spread : List Decision → List (List Pair) → List Decision
spread decisions [] = []
spread decisions ([] ∷ news) = Abort ∷ spread decisions news
spread decisions ((pair ∷ new) ∷ news) = get_or decisions 0 Abort ∷ spread (drop 1 decisions) news

-- Whether the new pairs of a partition were aborted. Where there are none, nothing was: then, as after each other decision, its
-- base number may rise.
abbrev pub is_aborted : Decision → List Pair → Bool
is_aborted decision [] = false
is_aborted Abort (pair ∷ new) = true
is_aborted Minor (pair ∷ new) = false
is_aborted Major (pair ∷ new) = false
is_aborted Split (pair ∷ new) = false

-- ---- a compaction

-- what becomes of one partition: what is carried on of its new data, and its pieces
pub record Treated : Type 0 where
  pub carried : List Pair
  pub pieces : List PieceState

abbrev pub treated : Decision → PartRuns → List Pair → Treated
treated decision part new = record { carried = carried_of decision new; pieces = pieces_of decision part.low part.runs new }

-- what becomes of all partitions: a decision and a list of new pairs for each
abbrev pub compacted : List Decision → List PartRuns → List (List Pair) → List Treated
compacted decisions [] news = []
compacted decisions (part ∷ parts) news = treated (get_or decisions 0 Abort) part (get_or news 0 []) ∷ compacted (drop 1 decisions) parts (drop 1 news)

-- the compaction of new data by a plan's decisions
abbrev pub compaction : List Decision → List PartRuns → List Pair → List Treated
compaction decisions parts new = compacted (spread decisions (news parts new)) parts (news parts new)

-- all that is carried on
abbrev pub all_carried : List Treated → List Pair
all_carried [] = []
all_carried (one ∷ others) = one.carried ++ all_carried others

-- the partitions that pieces are, where these are the old runs
abbrev pub piece_parts : List (List Pair) → List PieceState → List PartRuns
piece_parts old [] = []
piece_parts old (piece ∷ pieces) = record { low = piece.low; runs = runs_of_piece old piece } ∷ piece_parts old pieces

-- the partitions after a compaction
abbrev pub parts_after : List PartRuns → List Treated → List PartRuns
parts_after [] treated = []
parts_after (part ∷ parts) [] = part ∷ parts
parts_after (part ∷ parts) (one ∷ others) = piece_parts part.runs one.pieces ++ parts_after parts others
