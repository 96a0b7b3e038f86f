use Rattle.std.proofs.Common.{◌-◌, ◌≤◌, ℕ, List, length}
use Rattle.std.specs.Prelude.{Option}
use denote.Ref.{Bor}
use Rattle.remix_build.specs.Heads.{LeastHead}
use Rattle.remix_build.proofs.heads.least.Given as goal

pub record Found (heads : List (Option (Bor (List ℕ)))) (run : ℕ) (best : Option (ℕ × Bor (List ℕ))) : Type 0 where
  pub least : LeastHead heads run best
  pub inside : run ≤ length heads

abbrev pub invariant-heads : goal.invariant-heads
invariant-heads l = Found l.heads l.run l.best

abbrev pub decreases-heads : goal.decreases-heads
decreases-heads l = length l.heads - l.run
