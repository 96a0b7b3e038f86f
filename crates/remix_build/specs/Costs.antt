-- What building an index costs in keys that are read.
use Rattle.std.specs.Prelude.{ℕ, Bool, true, false, List, length, Option, Some, None}
use Rattle.std.specs.List.{count_by, sum_by}
use denote.Ref.{Bor}
use Rattle.rdb_base.specs.declared.pair.Pair.{Pair}

-- how many pairs all runs have together
abbrev pub pairs_in : List (List Pair) → ℕ
pairs_in runs = sum_by (λ run. length run) runs

-- whether a run has a head
abbrev pub has_head : Option (Bor (List ℕ)) → Bool
has_head None = false
has_head (Some lent) = true

-- how many runs have a head
abbrev pub heads_there : List (Option (Bor (List ℕ))) → ℕ
heads_there heads = count_by has_head heads
