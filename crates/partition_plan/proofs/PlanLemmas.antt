-- What holds of every plan. To know: `planned-length`, `kept_by-planned`, `count_by-planned`, `planned-no_abort`.
use Rattle.std.proofs.Common.{◌≡◌, ◌≢◌, ℕ, suc, ◌+◌, ◌≤◌, Bool, true, false, cond, [], ◌∷◌, refl, ap, arith}
use Rattle.std.specs.Prelude.{nat_le, nat_lt, ◌&&◌, ◌||◌}
use Rattle.std.proofs.lemmas.Bool.Decides.{nat_tests}
use Rattle.partition_plan.specs.declared.limits.TheConstants.{SMALL_BELOW, CARRIED_MAX, AGE_MAX, PARTITION_MAX, PARTITIONS_MAX}
use Rattle.partition_plan.specs.declared.decision.Decision.TheVariants.{Abort, Minor, Major, Split}
use Rattle.partition_plan.specs.declared.part_size.PartSize.{PartSize}
use Rattle.partition_plan.specs.Plans.{may_carry, may_add_run, may_stay_one, split_count, decided, kept_after, count_after}
use Rattle.partition_plan.specs.PlanLaws.{OneDecisionEach, CarriesLittle, LeavesFewParts, AbortsIfAllowed}

pub planned-length : OneDecisionEach
planned-length may_abort kept count [] = refl
planned-length may_abort kept count (size ∷ sizes) =
    let d = decided may_abort kept count size in ap suc (planned-length may_abort (kept_after d kept size) (count_after d count size) sizes)

-- ---- what is carried on

and_first : (a b : Bool) → (a && b) ≡ true → a ≡ true
and_first true b h = refl
and_first false b h = absurd cc

and_second : (a b : Bool) → (a && b) ≡ true → b ≡ true
and_second true b h = h
and_second false b h = absurd cc

-- an abort's new data fit
carry-fits : (may_abort : Bool) (kept : ℕ) (size : PartSize) → may_carry may_abort kept size ≡ true → kept + size.new ≤ CARRIED_MAX
carry-fits may_abort kept size h =
    let tests = and_second may_abort (nat_lt size.new SMALL_BELOW && (nat_le (kept + size.new) CARRIED_MAX && nat_le size.carried_age AGE_MAX)) h in
    let two = and_second (nat_lt size.new SMALL_BELOW) (nat_le (kept + size.new) CARRIED_MAX && nat_le size.carried_age AGE_MAX) tests in
    let one : nat_le (kept + size.new) CARRIED_MAX ≡ true = and_first (nat_le (kept + size.new) CARRIED_MAX) (nat_le size.carried_age AGE_MAX) two in
    grind (arith, nat_tests)

pub kept_after-decided : (may_abort : Bool) (kept count : ℕ) (size : PartSize) → kept ≤ CARRIED_MAX → kept_after (decided may_abort kept count size) kept size ≤ CARRIED_MAX
kept_after-decided may_abort kept count size le = by_tests (may_carry may_abort kept size) (may_add_run size) (may_stay_one count size) refl
  where
    by_tests : (a b c : Bool) → may_carry may_abort kept size ≡ a → kept_after (cond a Abort (cond b Minor (cond c Major Split))) kept size ≤ CARRIED_MAX
    by_tests true b c e = carry-fits may_abort kept size e
    by_tests false true c e = le
    by_tests false false true e = le
    by_tests false false false e = le

pub kept_by-planned : CarriesLittle
kept_by-planned may_abort kept count [] le = le
kept_by-planned may_abort kept count (size ∷ sizes) le =
    let d = decided may_abort kept count size in
    kept_by-planned may_abort (kept_after d kept size) (count_after d count size) sizes (kept_after-decided may_abort kept count size le)

-- ---- how many partitions there are

or_neither : (a b : Bool) → (a || b) ≡ false → b ≡ false
or_neither true b h = absurd cc
or_neither false b h = h

split-fits : (count : ℕ) (size : PartSize) → may_stay_one count size ≡ false → split_count count size.parts ≤ PARTITIONS_MAX
split-fits count size h =
    let few : nat_lt PARTITIONS_MAX (split_count count size.parts) ≡ false = or_neither (nat_le size.merged PARTITION_MAX) (nat_lt PARTITIONS_MAX (split_count count size.parts)) h in
    grind (arith, nat_tests)

pub count_after-decided : (may_abort : Bool) (kept count : ℕ) (size : PartSize) → count ≤ PARTITIONS_MAX → count_after (decided may_abort kept count size) count size ≤ PARTITIONS_MAX
count_after-decided may_abort kept count size le = by_tests (may_carry may_abort kept size) (may_add_run size) (may_stay_one count size) refl
  where
    by_tests : (a b c : Bool) → may_stay_one count size ≡ c → count_after (cond a Abort (cond b Minor (cond c Major Split))) count size ≤ PARTITIONS_MAX
    by_tests true b c e = le
    by_tests false true c e = le
    by_tests false false true e = le
    by_tests false false false e = split-fits count size e

pub count_by-planned : LeavesFewParts
count_by-planned may_abort kept count [] le = le
count_by-planned may_abort kept count (size ∷ sizes) le =
    let d = decided may_abort kept count size in
    count_by-planned may_abort (kept_after d kept size) (count_after d count size) sizes (count_after-decided may_abort kept count size le)

-- ---- where nothing may be carried on

no_abort : (b c : Bool) → cond b Minor (cond c Major Split) ≢ Abort
no_abort true c h = absurd cc
no_abort false true h = absurd cc
no_abort false false h = absurd cc

pub planned-no_abort : AbortsIfAllowed
planned-no_abort kept count [] = tt
planned-no_abort kept count (size ∷ sizes) =
    let d = decided false kept count size in
    (no_abort (may_add_run size) (may_stay_one count size), planned-no_abort (kept_after d kept size) (count_after d count size) sizes)
