use Rattle.std.proofs.Common.{◌-◌, ◌<◌, ◌≤◌, length}
use Rattle.remix_seek.specs.Searches.{anchor_below}
use Rattle.rdb_base.specs.Halvings.{Halved, KeepsBound}
use Rattle.remix_seek.proofs.search.anchors_below.Given as goal

abbrev pub invariant-halves : goal.invariant-halves
invariant-halves g l = record {
  places : Halved (anchor_below l.anchors l.key) (length l.anchors) l.low l.high;
  cost : KeepsBound (length l.anchors) l.fn.steps l.steps (l.high - l.low);
  later : l.fn.steps ≤ l.steps;
  some : l.high - l.low < length l.anchors → l.fn.steps < l.steps;
}

abbrev pub decreases-halves : goal.decreases-halves
decreases-halves g l = l.high - l.low
