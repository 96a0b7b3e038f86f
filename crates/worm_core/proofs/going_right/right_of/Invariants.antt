use Rattle.std.proofs.Common.{◌≡◌, ◌<◌, ℕ}
use Rattle.std.specs.Prelude.{Some, slice_get}
use Rattle.worm_leaf.specs.Leaves.{LeafState}
use Rattle.worm_core.proofs.going_right.right_of.Given as goal

abbrev pub invariant-leaves : goal.invariant-leaves
invariant-leaves l = (n : ℕ) → n < l.number → (other : LeafState) → slice_get l.leaves n ≡ Some other → l.leaf.high ≡ Some other.low → ⊥
