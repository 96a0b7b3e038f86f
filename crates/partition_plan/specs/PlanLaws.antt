-- What holds of every plan.
use Rattle.std.specs.Prelude.{◌≡◌, ◌≢◌, ℕ, ◌≤◌, Bool, false, List, [], ◌∷◌, length}
use Rattle.std.specs.List.{AllByRecursion}
use Rattle.partition_plan.specs.declared.limits.TheConstants.{CARRIED_MAX, PARTITIONS_MAX}
use Rattle.partition_plan.specs.declared.decision.Decision.{Decision}
use Rattle.partition_plan.specs.declared.decision.Decision.TheVariants.{Abort}
use Rattle.partition_plan.specs.declared.part_size.PartSize.{PartSize}
use Rattle.partition_plan.specs.Plans.{planned, kept_after, count_after}

-- what is carried on after these decisions, where `kept` was before them
abbrev pub kept_by : ℕ → List Decision → List PartSize → ℕ
kept_by kept [] sizes = kept
kept_by kept (decision ∷ decisions) [] = kept
kept_by kept (decision ∷ decisions) (size ∷ sizes) = kept_by (kept_after decision kept size) decisions sizes

-- how many partitions there are after these decisions, where `count` were before them
abbrev pub count_by : ℕ → List Decision → List PartSize → ℕ
count_by count [] sizes = count
count_by count (decision ∷ decisions) [] = count
count_by count (decision ∷ decisions) (size ∷ sizes) = count_by (count_after decision count size) decisions sizes

-- each member has one decision
abbrev pub OneDecisionEach : Type 0
OneDecisionEach = (may_abort : Bool) (kept count : ℕ) (sizes : List PartSize) → length (planned may_abort kept count sizes) ≡ length sizes

-- all that is carried on is at most CARRIED_MAX
abbrev pub CarriesLittle : Type 0
CarriesLittle = (may_abort : Bool) (kept count : ℕ) (sizes : List PartSize) → kept ≤ CARRIED_MAX
    → kept_by kept (planned may_abort kept count sizes) sizes ≤ CARRIED_MAX

-- there are at most PARTITIONS_MAX partitions after it, if there were before
abbrev pub LeavesFewParts : Type 0
LeavesFewParts = (may_abort : Bool) (kept count : ℕ) (sizes : List PartSize) → count ≤ PARTITIONS_MAX
    → count_by count (planned may_abort kept count sizes) sizes ≤ PARTITIONS_MAX

-- nothing is carried on where that is not allowed
abbrev pub AbortsIfAllowed : Type 0
AbortsIfAllowed = (kept count : ℕ) (sizes : List PartSize) → AllByRecursion (λ decision. decision ≢ Abort) (planned false kept count sizes)
