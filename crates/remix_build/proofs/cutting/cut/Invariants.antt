use Rattle.std.proofs.Common.{◌≡◌, ◌<◌, ◌≤◌, ℕ, List, true}
use Rattle.std.specs.Prelude.{slice_index}
use Rattle.remix_view.specs.Selectors.{old_in}
use Rattle.remix_build.proofs.cutting.cut.Given as goal

-- from the place to the thirty-third all are old
pub record Passed (selectors : List ℕ) (n : ℕ) : Type 0 where
  pub most : n ≤ 32
  pub old : (i : ℕ) → n < i → i ≤ 32 → old_in (slice_index selectors i) ≡ true

abbrev pub invariant-places : goal.invariant-places
invariant-places l = Passed l.selectors l.places

abbrev pub decreases-places : goal.decreases-places
decreases-places l = l.places
