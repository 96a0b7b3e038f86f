-- Partitions that follow one another. To know: `AreParts-append`, `IsRun-parts_level`, `IsWithin-parts_level`, `parts_level-append`.
use Rattle.std.proofs.Common.{◌≡◌, ℕ, true, List, [], ◌∷◌, ◌++◌, refl, sym, ap, subst, ◌∙◌}
use Rattle.std.specs.Prelude.{Option, Some}
use Rattle.std.specs.List.{AllByRecursion}
use Rattle.std.specs.declared.cmp.Ordering.TheVariants.{Less}
use Rattle.std.proofs.lemmas.List.{append_assoc, append-nil}
use Rattle.rdb_base.specs.Order.{key_cmp}
use Rattle.rdb_base.specs.Ranges.{NotBelow, IsBelow, in_range}
use Rattle.rdb_base.specs.Runs.{IsRun, AreBelow}
use Rattle.rdb_base.specs.Levels.{level_of}
use Rattle.rdb_base.specs.declared.pair.Pair.{Pair}
use Rattle.rdb_base.proofs.OrderLemmas.{lt_not}
use Rattle.rdb_base.proofs.RangeLemmas.{range_from, range_to, below_high, left_in, right_in}
use Rattle.rdb_base.proofs.Lists.{all-weaker, all-append}
use Rattle.rdb_base.proofs.RunLemmas.{IsRun-level_of}
use Rattle.rdb_base.proofs.MergeLemmas.{all-over}
use Rattle.partition_plan.specs.Compactions.{PartRuns, next_low, IsWithin, IsPart, AreParts, parts_level}
use Rattle.partition_plan.proofs.ApartLemmas.{AreFrom, run-apart}

-- ---- one range

-- what a range tells of its two sides
pub within-below : (low bound : List ℕ) (pairs : List Pair) → IsWithin low (Some bound) pairs → AreBelow pairs bound
within-below low bound pairs all = all-weaker (λ (p : Pair). in_range low (Some bound) p.key ≡ true) (λ (p : Pair). key_cmp p.key bound ≡ Less) (λ p h. (range_from low (Some bound) p.key h).1) pairs all

pub within-from : (low : List ℕ) (high : Option (List ℕ)) (pairs : List Pair) → IsWithin low high pairs → AreFrom pairs low
within-from low high pairs all = all-weaker (λ (p : Pair). in_range low high p.key ≡ true) (λ (p : Pair). NotBelow p.key low) (λ p h. (range_from low high p.key h).0) pairs all

-- the keys of a level lie where those of its runs do
pub level-within : (low : List ℕ) (high : Option (List ℕ)) (runs : List (List Pair)) → AllByRecursion (IsWithin low high) runs → IsWithin low high (level_of runs)
level-within low high [] all = tt
level-within low high (run ∷ runs) all = all-over (λ (p : Pair). in_range low high p.key ≡ true) run (level_of runs) all.0 (level-within low high runs all.1)

-- ---- several

-- a bound of them is below the high one
pub bound-below : (high : Option (List ℕ)) (part : PartRuns) (parts : List PartRuns) → AreParts high (part ∷ parts) → IsBelow high part.low
bound-below high part [] are = are.1
bound-below high part (next ∷ parts) are = below_high high part.low next.low (bound-below high next parts are.2) are.1

-- the next bound lies in the range of all
pub next-inside : (high : Option (List ℕ)) (part next : PartRuns) (parts : List PartRuns) → AreParts high (part ∷ next ∷ parts) → in_range part.low high next.low ≡ true
next-inside high part next parts are = range_to part.low high next.low (lt_not part.low next.low are.1) (bound-below high next parts are.2)

-- the keys of all lie from the first bound on up to the high one
pub IsWithin-parts_level : (high : Option (List ℕ)) (part : PartRuns) (parts : List PartRuns) → AreParts high (part ∷ parts) → IsWithin part.low high (parts_level (part ∷ parts))
IsWithin-parts_level high part [] are = all-append (λ (p : Pair). in_range part.low high p.key ≡ true) (level_of part.runs) [] (level-within part.low high part.runs are.0.inside) tt
IsWithin-parts_level high part (next ∷ parts) are =
    let cut = next-inside high part next parts are in
    all-append (λ (p : Pair). in_range part.low high p.key ≡ true) (level_of part.runs) (parts_level (next ∷ parts))
    (all-weaker (λ (p : Pair). in_range part.low (Some next.low) p.key ≡ true) (λ (p : Pair). in_range part.low high p.key ≡ true) (λ p h. left_in part.low high next.low p.key cut h) (level_of part.runs) (level-within part.low (Some next.low) part.runs are.0.inside))
    (all-weaker (λ (p : Pair). in_range next.low high p.key ≡ true) (λ (p : Pair). in_range part.low high p.key ≡ true) (λ p h. right_in part.low high next.low p.key cut h) (parts_level (next ∷ parts)) (IsWithin-parts_level high next parts are.2))

-- their level is a run
pub IsRun-parts_level : (high : Option (List ℕ)) (parts : List PartRuns) → AreParts high parts → IsRun (parts_level parts)
IsRun-parts_level high [] are = tt
IsRun-parts_level high (part ∷ []) are = subst IsRun (sym (append-nil (level_of part.runs))) (IsRun-level_of part.runs)
IsRun-parts_level high (part ∷ next ∷ parts) are =
    run-apart (level_of part.runs) (parts_level (next ∷ parts)) next.low (IsRun-level_of part.runs) (IsRun-parts_level high (next ∷ parts) are.2)
    (within-below part.low next.low (level_of part.runs) (level-within part.low (Some next.low) part.runs are.0.inside))
    (within-from next.low high (parts_level (next ∷ parts)) (IsWithin-parts_level high next parts are.2))

-- ---- some after others

pub parts_level-append : (xs ys : List PartRuns) → parts_level (xs ++ ys) ≡ parts_level xs ++ parts_level ys
parts_level-append [] ys = refl
parts_level-append (x ∷ xs) ys = ap (λ rest. level_of x.runs ++ rest) (parts_level-append xs ys) ∙ sym (append_assoc (level_of x.runs) (parts_level xs) (parts_level ys))

pub next_low-append : (high : Option (List ℕ)) (xs ys : List PartRuns) → next_low high (xs ++ ys) ≡ next_low (next_low high ys) xs
next_low-append high [] ys = refl
next_low-append high (x ∷ xs) ys = refl

-- partitions up to the first bound of others, and these
pub AreParts-append : (high : Option (List ℕ)) (xs ys : List PartRuns) → AreParts (next_low high ys) xs → AreParts high ys → AreParts high (xs ++ ys)
AreParts-append high [] ys front back = back
AreParts-append high (x ∷ xs) ys front back =
    let next = sym (next_low-append high xs ys) in
    (subst (λ bound. IsPart bound x) next front.0, subst (λ bound. IsBelow bound x.low) next front.1, AreParts-append high xs ys front.2 back)
