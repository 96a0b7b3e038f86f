-- Three partitions and their new data, worked out: what the definitions give. To know: `members-example`, `plan-example`, `parts-example`.
use Rattle.std.proofs.Common.{◌≡◌, ℕ, true, List, [], ◌∷◌, refl}
use Rattle.rdb_base.specs.declared.change.Change.TheVariants.{Put, Del}
use Rattle.rdb_base.specs.declared.pair.Pair.{Pair}
use Rattle.partition_plan.specs.declared.decision.Decision.TheVariants.{Abort, Minor, Major}
use Rattle.partition_plan.specs.Pieces.{new_runs, pieces_of}
use Rattle.partition_plan.specs.Compactions.{PartRuns, news, members_of, plan_of, compaction, all_carried, parts_after}

abbrev pub put : ℕ → ℕ → Pair
put key value = record { key = key ∷ []; change = Put (value ∷ []) }

abbrev pub delete : ℕ → Pair
delete key = record { key = key ∷ []; change = Del }

-- up to m, up to t, and the rest; in the middle there is no run
abbrev pub first : PartRuns
first = record { low = []; runs = (put 97 1 ∷ put 99 2 ∷ []) ∷ [] }

abbrev pub middle : PartRuns
middle = record { low = 109 ∷ []; runs = [] }

abbrev pub last : PartRuns
last = record { low = 116 ∷ []; runs = (put 120 5 ∷ []) ∷ [] }

abbrev pub parts : List PartRuns
parts = first ∷ middle ∷ last ∷ []

abbrev pub new : List Pair
new = delete 97 ∷ put 98 3 ∷ put 122 4 ∷ []

-- each partition has the new pairs of its range
pub news-example : news parts new ≡ (delete 97 ∷ put 98 3 ∷ []) ∷ [] ∷ (put 122 4 ∷ []) ∷ []
news-example = refl

-- two of them have some: so many bytes new, and after a major the rows of b and c, or of x and z
pub members-example :
    members_of 0 parts (news parts new) (2 ∷ 0 ∷ 6 ∷ [])
    ≡ record { part = 0; new = 15; carried_age = 2; runs = 1; held = 16; merged = 16; parts = 1 }
    ∷ record { part = 2; new = 8; carried_age = 6; runs = 1; held = 8; merged = 16; parts = 1 }
    ∷ []
members-example = refl

-- the younger ones are carried on, the older ones become a run
pub plan-example : plan_of true parts new (2 ∷ 0 ∷ 6 ∷ []) ≡ Abort ∷ Minor ∷ []
plan-example = refl

pub carried-example : all_carried (compaction (Abort ∷ Minor ∷ []) parts new) ≡ delete 97 ∷ put 98 3 ∷ []
carried-example = refl

pub parts-example : parts_after parts (compaction (Abort ∷ Minor ∷ []) parts new) ≡ first ∷ middle ∷ record { low = 116 ∷ []; runs = (put 122 4 ∷ []) ∷ (put 120 5 ∷ []) ∷ [] } ∷ []
parts-example = refl

-- a major leaves one run of the rows, without the deletion and what it deleted
pub major-example : parts_after parts (compaction (Major ∷ Abort ∷ []) parts new) ≡ record { low = []; runs = (put 98 3 ∷ put 99 2 ∷ []) ∷ [] } ∷ middle ∷ last ∷ []
major-example = refl

-- of which that one is written
pub runs-example : new_runs (pieces_of Major [] first.runs (delete 97 ∷ put 98 3 ∷ [])) ≡ (put 98 3 ∷ put 99 2 ∷ []) ∷ []
runs-example = refl
