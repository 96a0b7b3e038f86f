-- What a take does to the bytes that are left, a put to those that were taken, and a failure to the count of faults.
use Rattle.std.specs.Prelude.{◌≡◌, ℕ, ◌≤◌, List, [], length, take, Option, Result, Ok, Err, IfSome}
use Rattle.std.specs.Io.KnownBytes.{prepend_known, append_known}
use Rattle.fault_count.specs.Counts.{RoseByOne}

-- the bytes that were left are those that were taken and those that are left now; none are taken only at the end; a
-- failed take leaves all
abbrev pub TakesFront : {E : Type 0} → Option (List ℕ) → Option (List ℕ) → Result ℕ E → List ℕ → Type 0
TakesFront old new (Ok n) into = (n ≤ length into) × (old ≡ prepend_known (take n into) new)
    × (n ≡ 0 → IfSome new (λ bytes. bytes ≡ []))
TakesFront old new (Err e) into = new ≡ old

-- the bytes of a piece went to the end, or, where the put failed, those of a front of it
abbrev pub PutsFront : {T E : Type 0} → Option (List ℕ) → Option (List ℕ) → Result T E → List ℕ → Type 0
PutsFront old new (Ok done) piece = new ≡ append_known old piece
PutsFront old new (Err e) piece = (n : ℕ) × (n ≤ length piece) × (new ≡ append_known old (take n piece))

-- the cause of a failed call: its one fault was counted
abbrev pub OneFault : {E : Type 0} → ℕ → ℕ → E → Type 0
OneFault before now error = RoseByOne before now
