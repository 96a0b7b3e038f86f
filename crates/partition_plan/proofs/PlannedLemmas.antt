-- The compaction that was planned: its numbers are within their limits. To know: `pieces-pairs`, `planned-few_parts`, `planned-few_runs`, `planned-little`.
use Rattle.std.proofs.Common.{◌≡◌, ℕ, suc, ◌+◌, ◌≤◌, Bool, true, false, cond, List, [], ◌∷◌, ◌++◌, length, drop, get_or, refl, ap, arith}
use Rattle.std.specs.Prelude.{nat_le, ◌&&◌}
use Rattle.std.specs.List.{AllByRecursion, sum_by}
use Rattle.std.proofs.lemmas.Bool.Decides.{nat_tests}
use Rattle.std.proofs.lemmas.List.{length-append}
use Rattle.rdb_base.specs.Runs.{sizes}
use Rattle.rdb_base.specs.declared.row.Row.{Row}
use Rattle.rdb_base.specs.declared.pair.Pair.{Pair}
use Rattle.rdb_base.proofs.Lists.{all-append}
use Rattle.rdb_base.proofs.SizeLemmas.{sizes-append}
use Rattle.partition_plan.specs.declared.limits.TheConstants.{CARRIED_MAX, RUNS_MAX, PARTITION_MAX, PARTITIONS_MAX}
use Rattle.partition_plan.specs.declared.decision.Decision.{Decision}
use Rattle.partition_plan.specs.declared.decision.Decision.TheVariants.{Abort, Minor, Major, Split}
use Rattle.partition_plan.specs.Plans.{may_carry, may_add_run, may_stay_one, decided, kept_after, count_after, planned}
use Rattle.partition_plan.specs.Pieces.{PieceState, run_of_rows, first_bound, pieces_from, split_parts, major_parts, with_run, pieces_of, carried_of}
use Rattle.partition_plan.specs.Compactions.{PartRuns, news, sizes_of, members_of, plan_of, spread, compacted, compaction, all_carried, piece_parts, parts_after}
use Rattle.partition_plan.specs.CompactionLaws.{HasPairs, NewRunsHavePairs, PlanLeavesFewParts, HasFewRuns, PlanLeavesFewRuns, PlanCarriesLittle}
use Rattle.partition_plan.proofs.PlanLemmas.{kept_after-decided, count_after-decided}

-- ---- one partition

-- a run of rows has a pair, where it is there
run-pairs : (part : List Row) → HasPairs (run_of_rows part)
run-pairs [] = tt
run-pairs (row ∷ rows) = tt

pieces_from-pairs : (low : List ℕ) (parts : List (List Row)) → AllByRecursion (λ (piece : PieceState). HasPairs piece.run) (pieces_from low parts)
pieces_from-pairs low [] = tt
pieces_from-pairs low (part ∷ parts) = (run-pairs part, pieces_from-pairs (first_bound parts) parts)

pub pieces-pairs : NewRunsHavePairs
pieces-pairs Abort low runs pair new = (tt, tt)
pieces-pairs Minor low runs pair new = (tt, tt)
pieces-pairs Major low runs pair new = pieces_from-pairs low (major_parts ((pair ∷ new) ∷ runs))
pieces-pairs Split low runs pair new = pieces_from-pairs low (split_parts ((pair ∷ new) ∷ runs))

-- there is a piece for each part
pieces_from-length : (old : List (List Pair)) (low : List ℕ) (parts : List (List Row)) → length (piece_parts old (pieces_from low parts)) ≡ length parts
pieces_from-length old low [] = refl
pieces_from-length old low (part ∷ parts) = ap suc (pieces_from-length old (first_bound parts) parts)

-- of which none has more than one run
one_run : (part : List Row) → length (with_run (run_of_rows part) []) ≤ RUNS_MAX
one_run [] = omega arith
one_run (row ∷ rows) = omega arith

pieces_from-few : (old : List (List Pair)) (low : List ℕ) (parts : List (List Row)) → AllByRecursion HasFewRuns (piece_parts old (pieces_from low parts))
pieces_from-few old low [] = tt
pieces_from-few old low (part ∷ parts) = (one_run part, pieces_from-few old (first_bound parts) parts)

-- the parts of a partition that a decision makes
abbrev pub made : Decision → PartRuns → List Pair → List PartRuns
made d part new = piece_parts part.runs (pieces_of d part.low part.runs new)

-- ---- how many partitions there are

-- of so many before, this one, and so many after it
made-length : (d : Decision) (index age count done left : ℕ) (part : PartRuns) (new : List Pair) → count ≡ done + suc left
    → count_after d count (sizes_of index part new age) ≡ (done + length (made d part new)) + left
made-length Abort index age count done left part new e = omega (arith, e)
made-length Minor index age count done left part new e = omega (arith, e)
made-length Major index age count done left part new e = omega (arith, e)
made-length Split index age count done left part new e =
    let n = pieces_from-length part.runs part.low (split_parts (new ∷ part.runs)) in omega (arith, e, n)

one_more : (done n whole : ℕ) → whole ≡ suc n → (done + 1) + n ≤ PARTITIONS_MAX → done + whole ≤ PARTITIONS_MAX
one_more done n whole e h = omega (arith, e, h)

some_more : (done a n whole : ℕ) → whole ≡ a + n → (done + a) + n ≤ PARTITIONS_MAX → done + whole ≤ PARTITIONS_MAX
some_more done a n whole e h = omega (arith, e, h)

parts-within : (may_abort : Bool) (kept count done index : ℕ) (parts : List PartRuns) (ns : List (List Pair)) (ages : List ℕ) → count ≡ done + length parts → count ≤ PARTITIONS_MAX
    → done + length (parts_after parts (compacted (spread (planned may_abort kept count (members_of index parts ns ages)) ns) parts ns)) ≤ PARTITIONS_MAX
parts-within may_abort kept count done index [] ns ages e le = omega (arith, e, le)
parts-within may_abort kept count done index (part ∷ parts) [] ages e le =
    let rest = parts_after parts (compacted [] parts []) in
    one_more done (length rest) (suc (length rest)) refl (parts-within may_abort kept count (done + 1) (index + 1) parts [] (drop 1 ages) (omega (arith, e)) le)
parts-within may_abort kept count done index (part ∷ parts) ([] ∷ ns) ages e le =
    let rest = parts_after parts (compacted (spread (planned may_abort kept count (members_of (index + 1) parts ns (drop 1 ages))) ns) parts ns) in
    one_more done (length rest) (suc (length rest)) refl (parts-within may_abort kept count (done + 1) (index + 1) parts ns (drop 1 ages) (omega (arith, e)) le)
parts-within may_abort kept count done index (part ∷ parts) ((p ∷ new) ∷ ns) ages e le =
    let size = sizes_of index part (p ∷ new) (get_or ages 0 0) in
    let d = decided may_abort kept count size in
    let kept_next = kept_after d kept size in
    let count_next = count_after d count size in
    let pieces = made d part (p ∷ new) in
    let rest = parts_after parts (compacted (spread (planned may_abort kept_next count_next (members_of (index + 1) parts ns (drop 1 ages))) ns) parts ns) in
    some_more done (length pieces) (length rest) (length (pieces ++ rest)) (length-append pieces rest)
    (parts-within may_abort kept_next count_next (done + length pieces) (index + 1) parts ns (drop 1 ages)
    (made-length d index (get_or ages 0 0) count done (length parts) part (p ∷ new) e) (count_after-decided may_abort kept count size le))

nothing_before : (n : ℕ) → 0 + n ≤ PARTITIONS_MAX → n ≤ PARTITIONS_MAX
nothing_before n h = omega (arith, h)

pub planned-few_parts : PlanLeavesFewParts
planned-few_parts may_abort parts new ages le =
    nothing_before (length (parts_after parts (compaction (plan_of may_abort parts new ages) parts new)))
    (parts-within may_abort 0 (length parts) 0 0 parts (news parts new) ages (omega arith) le)

-- ---- how many runs they have

and_first : (a b : Bool) → (a && b) ≡ true → a ≡ true
and_first true b h = refl
and_first false b h = absurd cc

made-few : (may_abort : Bool) (kept count index age : ℕ) (part : PartRuns) (new : List Pair) → HasFewRuns part → AllByRecursion HasFewRuns (made (decided may_abort kept count (sizes_of index part new age)) part new)
made-few may_abort kept count index age part new few =
    by_tests (may_carry may_abort kept (sizes_of index part new age)) (may_add_run (sizes_of index part new age)) (may_stay_one count (sizes_of index part new age)) refl
  where
    by_tests : (a b c : Bool) → may_add_run (sizes_of index part new age) ≡ b → AllByRecursion HasFewRuns (made (cond a Abort (cond b Minor (cond c Major Split))) part new)
    by_tests true b c e = (few, tt)
    by_tests false true c e =
        let one : nat_le (length part.runs + 1) RUNS_MAX ≡ true = and_first (nat_le (length part.runs + 1) RUNS_MAX) (nat_le (sum_by sizes part.runs + sizes new) PARTITION_MAX) e in
        let room : length part.runs + 1 ≤ RUNS_MAX = grind (arith, nat_tests) in
        (omega (arith, room), tt)
    by_tests false false true e = pieces_from-few part.runs part.low (major_parts (new ∷ part.runs))
    by_tests false false false e = pieces_from-few part.runs part.low (split_parts (new ∷ part.runs))

runs-within : (may_abort : Bool) (kept count index : ℕ) (parts : List PartRuns) (ns : List (List Pair)) (ages : List ℕ) → AllByRecursion HasFewRuns parts
    → AllByRecursion HasFewRuns (parts_after parts (compacted (spread (planned may_abort kept count (members_of index parts ns ages)) ns) parts ns))
runs-within may_abort kept count index [] ns ages few = tt
runs-within may_abort kept count index (part ∷ parts) [] ages few = (few.0, runs-within may_abort kept count (index + 1) parts [] (drop 1 ages) few.1)
runs-within may_abort kept count index (part ∷ parts) ([] ∷ ns) ages few = (few.0, runs-within may_abort kept count (index + 1) parts ns (drop 1 ages) few.1)
runs-within may_abort kept count index (part ∷ parts) ((p ∷ new) ∷ ns) ages few =
    let size = sizes_of index part (p ∷ new) (get_or ages 0 0) in
    let d = decided may_abort kept count size in
    let kept_next = kept_after d kept size in
    let count_next = count_after d count size in
    all-append HasFewRuns (made d part (p ∷ new)) (parts_after parts (compacted (spread (planned may_abort kept_next count_next (members_of (index + 1) parts ns (drop 1 ages))) ns) parts ns))
    (made-few may_abort kept count index (get_or ages 0 0) part (p ∷ new) few.0)
    (runs-within may_abort kept_next count_next (index + 1) parts ns (drop 1 ages) few.1)

pub planned-few_runs : PlanLeavesFewRuns
planned-few_runs may_abort parts new ages few = runs-within may_abort 0 (length parts) 0 parts (news parts new) ages few

-- ---- what is carried on

carried-size : (d : Decision) (kept index age : ℕ) (part : PartRuns) (new : List Pair) → kept + sizes (carried_of d new) ≡ kept_after d kept (sizes_of index part new age)
carried-size Abort kept index age part new = refl
carried-size Minor kept index age part new = omega arith
carried-size Major kept index age part new = omega arith
carried-size Split kept index age part new = omega arith

more_kept : (kept c r next whole : ℕ) → whole ≡ c + r → kept + c ≡ next → next + r ≤ CARRIED_MAX → kept + whole ≤ CARRIED_MAX
more_kept kept c r next whole e n h = omega (arith, e, n, h)

carried-within : (may_abort : Bool) (kept count index : ℕ) (parts : List PartRuns) (ns : List (List Pair)) (ages : List ℕ) → kept ≤ CARRIED_MAX
    → kept + sizes (all_carried (compacted (spread (planned may_abort kept count (members_of index parts ns ages)) ns) parts ns)) ≤ CARRIED_MAX
carried-within may_abort kept count index [] ns ages le = omega (arith, le)
carried-within may_abort kept count index (part ∷ parts) [] ages le = carried-within may_abort kept count (index + 1) parts [] (drop 1 ages) le
carried-within may_abort kept count index (part ∷ parts) ([] ∷ ns) ages le = carried-within may_abort kept count (index + 1) parts ns (drop 1 ages) le
carried-within may_abort kept count index (part ∷ parts) ((p ∷ new) ∷ ns) ages le =
    let size = sizes_of index part (p ∷ new) (get_or ages 0 0) in
    let d = decided may_abort kept count size in
    let kept_next = kept_after d kept size in
    let count_next = count_after d count size in
    let c = carried_of d (p ∷ new) in
    let rest = all_carried (compacted (spread (planned may_abort kept_next count_next (members_of (index + 1) parts ns (drop 1 ages))) ns) parts ns) in
    more_kept kept (sizes c) (sizes rest) kept_next (sizes (c ++ rest)) (sizes-append c rest) (carried-size d kept index (get_or ages 0 0) part (p ∷ new))
    (carried-within may_abort kept_next count_next (index + 1) parts ns (drop 1 ages) (kept_after-decided may_abort kept count size le))

nothing_kept : (n : ℕ) → 0 + n ≤ CARRIED_MAX → n ≤ CARRIED_MAX
nothing_kept n h = omega (arith, h)

pub planned-little : PlanCarriesLittle
planned-little may_abort parts new ages =
    nothing_kept (sizes (all_carried (compaction (plan_of may_abort parts new ages) parts new)))
    (carried-within may_abort 0 (length parts) 0 parts (news parts new) ages (omega arith))
