-- What is gathered before a writer gets it, and what a reader read ahead, where their bytes are known.
use Rattle.std.specs.Prelude.{ℕ, ◌≤◌, List, length, take, drop, Option, Result, Ok, Err}
use Rattle.std.specs.Io.KnownBytes.{append_known, Appends}

-- all that a writer has and will get: what it holds, and what of `held` is not passed on
abbrev pub given : Option (List ℕ) → ℕ → List ℕ → Option (List ℕ)
given written passed held = append_known written (drop passed held)

-- a put that went well gives the whole piece, and a failed one a front of it
abbrev pub Gives : {T E : Type 0} → Option (List ℕ) → Option (List ℕ) → Result T E → List ℕ → Type 0
Gives old new (Ok done) piece = Appends old new piece
Gives old new (Err e) piece = (n : ℕ) × (n ≤ length piece) × Appends old new (take n piece)
