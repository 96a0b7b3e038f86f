use Rattle.std.proofs.Common.{◌-◌, ◌<◌, ◌≤◌, map}
use Rattle.remix_seek.specs.Searches.{place_below}
use Rattle.rdb_base.specs.Halvings.{Halved, KeepsBound}
use Rattle.remix_seek.proofs.search.first_in_segment.Given as goal

abbrev pub invariant-halves : goal.invariant-halves
invariant-halves g l = record {
  places : Halved (place_below (map g.T.Runs.run l.runs) l.view l.segment l.key) 32 l.low l.high;
  cost : KeepsBound 31 l.fn.steps l.steps (l.high - l.low);
  some : 0 < l.low;
  later : l.fn.steps ≤ l.steps;
}

abbrev pub decreases-halves : goal.decreases-halves
decreases-halves g l = l.high - l.low
