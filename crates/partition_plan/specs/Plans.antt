-- The compaction plan: one decision for each member, the first whose test holds.
use Rattle.std.specs.Prelude.{ℕ, ◌+◌, ◌-◌, Bool, ◌&&◌, ◌||◌, nat_le, nat_lt, List, [], ◌∷◌, if◌then◌else◌}
use Rattle.partition_plan.specs.declared.limits.TheConstants.{SMALL_BELOW, CARRIED_MAX, AGE_MAX, RUNS_MAX, PARTITION_MAX, PARTITIONS_MAX}
use Rattle.partition_plan.specs.declared.decision.Decision.{Decision}
use Rattle.partition_plan.specs.declared.decision.Decision.TheVariants.{Abort, Minor, Major, Split}
use Rattle.partition_plan.specs.declared.part_size.PartSize.{PartSize}

-- ---- the tests, in their order

-- few new data, none of them old, that fit what is carried on so far
abbrev pub may_carry : Bool → ℕ → PartSize → Bool
may_carry may_abort kept size = may_abort && (nat_lt size.new SMALL_BELOW && (nat_le (kept + size.new) CARRIED_MAX && nat_le size.carried_age AGE_MAX))

-- one run more is not too many, and the pairs of all runs are not too large
abbrev pub may_add_run : PartSize → Bool
may_add_run size = nat_le (size.runs + 1) RUNS_MAX && nat_le (size.held + size.new) PARTITION_MAX

-- the number of partitions after one of them has become so many
abbrev pub split_count : ℕ → ℕ → ℕ
split_count count parts = count + parts - 1

-- the rows are not too large for one partition, or a split would leave too many partitions
abbrev pub may_stay_one : ℕ → PartSize → Bool
may_stay_one count size = nat_le size.merged PARTITION_MAX || nat_lt PARTITIONS_MAX (split_count count size.parts)

-- ---- the plan

-- the decision of one member: `kept` is carried on by the members before it, and there are `count` partitions after them
abbrev pub decided : Bool → ℕ → ℕ → PartSize → Decision
decided may_abort kept count size =
    if may_carry may_abort kept size then Abort
    else if may_add_run size then Minor
    else if may_stay_one count size then Major
    else Split

-- what is carried on after a decision
abbrev pub kept_after : Decision → ℕ → PartSize → ℕ
kept_after Abort kept size = kept + size.new
kept_after Minor kept size = kept
kept_after Major kept size = kept
kept_after Split kept size = kept

-- how many partitions there are after a decision
abbrev pub count_after : Decision → ℕ → PartSize → ℕ
count_after Abort count size = count
count_after Minor count size = count
count_after Major count size = count
count_after Split count size = split_count count size.parts

-- the decisions of these members, in order
abbrev pub planned : Bool → ℕ → ℕ → List PartSize → List Decision
planned may_abort kept count [] = []
planned may_abort kept count (size ∷ sizes) =
    decided may_abort kept count size
    ∷ planned may_abort (kept_after (decided may_abort kept count size) kept size) (count_after (decided may_abort kept count size) count size) sizes
