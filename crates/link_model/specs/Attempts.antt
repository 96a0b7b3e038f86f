-- What is known of calls of the system: one call, and several of which the interrupted ones were tried again.
use Rattle.std.specs.Prelude.{◌≡◌, ◌⊎◌, ℕ, ◌<◌, ◌≤◌, List, length, take, Option, Result, Ok, Err, OnOk, OnErr}
use Rattle.std.specs.Io.KnownBytes.{Appends}
use Rattle.fault_count.specs.Counts.{one_more, sum_of, Rose}
use Rattle.link_model.specs.declared.attempts.CallError.{CallError}
use Rattle.link_model.specs.declared.attempts.CallError.TheVariants.{Interrupted, Failed}
use Rattle.link_model.specs.declared.attempts.CallCounts.{CallCounts}
use Rattle.link_model.specs.declared.limits.TheConstants.{INTERRUPTS_MAX}

-- the counts after a call that did nothing: one of them rose by one
abbrev pub IsCountedAs : CallCounts → CallCounts → CallError → Type 0
IsCountedAs old new Interrupted = (new ≡ record old { interrupts = one_more old.interrupts })
    × (old.interrupts ≤ new.interrupts)
IsCountedAs old new Failed = (new ≡ record old { failures = one_more old.failures }) × (old.failures ≤ new.failures)

-- the counts after one call
abbrev pub IsCounted : {T : Type 0} → CallCounts → CallCounts → Result T CallError → Type 0
IsCounted old new (Ok done) = new ≡ old
IsCounted old new (Err error) = IsCountedAs old new error

-- a call failed, or as many were interrupted as are tried again
abbrev pub GaveUp : CallCounts → CallCounts → Type 0
GaveUp old new = Rose old.failures new.failures ⊎ (sum_of old.interrupts INTERRUPTS_MAX ≤ new.interrupts)

-- the counts after so many interrupted calls, among others that succeeded
pub record WereInterrupted (n : ℕ) (old new : CallCounts) : Type 0 where
  pub later : old.interrupts ≤ new.interrupts
  pub counted : sum_of old.interrupts n ≤ new.interrupts
  pub kept : new.failures ≡ old.failures

-- the counts after several calls: no call failed where the whole succeeded, and otherwise it was given up for a reason
pub record HasTried {T E : Type 0} (old new : CallCounts) (result : Result T E) : Type 0 where
  pub interrupts : old.interrupts ≤ new.interrupts
  pub failed : OnErr result (GaveUp old new)
  pub kept : OnOk result (new.failures ≡ old.failures)

-- bytes that went to a writer's end: all of them, or a shorter front, whose length the error has
abbrev pub WritesFront : {T : Type 0} → Option (List ℕ) → Option (List ℕ) → Result T ℕ → List ℕ → Type 0
WritesFront old new (Ok done) bytes = Appends old new bytes
WritesFront old new (Err n) bytes = (n < length bytes) × Appends old new (take n bytes)
