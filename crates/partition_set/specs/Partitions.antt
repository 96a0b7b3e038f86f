-- Partitions: ranges of keys that follow one another, each with its runs and their index, and the level that they are together.
use Rattle.std.specs.Prelude.{◌≡◌, ℕ, ◌≤◌, ◌-◌, ◌^◌, min, true, List, [], ◌∷◌, ◌++◌, length, map, Option, Some, None}
use Rattle.std.specs.List.{AllByRecursion, sum_by}
use Rattle.rdb_base.specs.Ranges.{in_range, IsBelow}
use Rattle.rdb_base.specs.Runs.{sizes}
use Rattle.rdb_base.specs.Levels.{level_of}
use Rattle.rdb_base.specs.declared.pair.Pair.{Pair}
use Rattle.remix_view.specs.Views.{ViewState}
use Rattle.remix_seek.specs.Indexes.{Indexes}

-- a partition: its low bound, its base number, its runs, the newest first, and what their index says
pub record PartState (T : Type 0) : Type 0 where
  pub low : List ℕ
  pub base : ℕ
  pub runs : List T
  pub view : ViewState
  pub anchors : List (List ℕ)

-- the bound of the next partition, where there is one
abbrev pub next_low : {T : Type 0} → List (PartState T) → Option (List ℕ)
next_low [] = None
next_low (part ∷ parts) = Some part.low

-- the keys of a run are in a range
abbrev pub IsWithin : List ℕ → Option (List ℕ) → List Pair → Type 0
IsWithin low high pairs = AllByRecursion (λ pair. in_range low high pair.key ≡ true) pairs

-- at most eight runs in the range, and an index that stands for them
pub record IsPart {T : Type 0} (run : T → List Pair) (high : Option (List ℕ)) (part : PartState T) : Type 0 where
  pub few : length part.runs ≤ 8
  pub inside : AllByRecursion (IsWithin part.low high) (map run part.runs)
  pub indexed : Indexes (map run part.runs) part.view part.anchors

-- partitions whose bounds rise strictly
abbrev pub AreParts : {T : Type 0} → (T → List Pair) → List (PartState T) → Type 0
AreParts run [] = Unit {0}
AreParts run (part ∷ parts) = IsPart run (next_low parts) part × IsBelow (next_low parts) part.low × AreParts run parts

-- a set of partitions: the first bound is empty
pub record IsSet {T : Type 0} (run : T → List Pair) (parts : List (PartState T)) : Type 0 where
  pub first : next_low parts ≡ Some []
  pub each : AreParts run parts

-- the level of a set: at each key the change of the newest run of the key's partition that has it, deletions kept
abbrev pub set_level : {T : Type 0} → (T → List Pair) → List (PartState T) → List Pair
set_level run [] = []
set_level run (part ∷ parts) = level_of (map run part.runs) ++ set_level run parts

-- the sizes of runs together
abbrev pub runs_size : {T : Type 0} → (T → List Pair) → List T → ℕ
runs_size run runs = sum_by (λ r. sizes (run r)) runs

-- the sizes of all runs of a set together
abbrev pub set_size : {T : Type 0} → (T → List Pair) → List (PartState T) → ℕ
set_size run parts = sum_by (λ part. runs_size run part.runs) parts

-- a sum that stands still at the greatest number of 128 bits
abbrev pub most_of : ℕ → ℕ
most_of sum = min sum (2 ^ 128 - 1)
