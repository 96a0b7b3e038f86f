use Rattle.std.proofs.Common.{◌≡◌, ◌+◌, ◌-◌, ℕ, List, length, map}
use Rattle.rdb_base.specs.declared.pair.Pair.{Pair}
use Rattle.remix_view.specs.Views.{ViewState}
use Rattle.remix_build.specs.Packing.{Packed}
use Rattle.remix_build.proofs.building.packed.Given as goal

-- the index so far, of a view over as many runs as there are, each segment of which has cost a step
pub record Going (runs : List (List Pair)) (order : List ℕ) (view : ViewState) (anchors : List (List ℕ)) (counts : List ℕ) (at many start now : ℕ) : Type 0 where
  pub packed : Packed runs order view.segments anchors counts at
  pub runs_told : view.runs ≡ many
  pub cost : now ≡ start + length view.segments

abbrev pub invariant-segments : goal.invariant-segments
invariant-segments g l = Going (map g.T.Runs.run l.runs) l.order l.packing.index.view l.packing.index.anchors l.packing.counts.items l.packing.at (length l.runs) l.fn.steps l.steps

abbrev pub decreases-segments : goal.decreases-segments
decreases-segments g l = length l.order - l.packing.at
