-- The cause of what a call answers, told by a count of failures from before the call and from after it.
use Rattle.std.specs.Prelude.{◌≡◌, ℕ, ◌≤◌, Result, IfErr, OnOk}
use Rattle.fault_count.specs.Counts.{Rose}

-- The count never falls. If the call succeeds, the count stays. If it fails, `cause` holds of the count before, the
-- count after, and the error.
pub record HasCause {T E : Type 0} (cause : ℕ → ℕ → E → Type 0) (before now : ℕ) (result : Result T E) : Type 0 where
  pub later : before ≤ now
  pub failed : IfErr result (cause before now)
  pub kept : OnOk result (now ≡ before)

-- the cause of an error that has but one kind: the count rose
abbrev pub Failure : {E : Type 0} → ℕ → ℕ → E → Type 0
Failure before now error = Rose before now
