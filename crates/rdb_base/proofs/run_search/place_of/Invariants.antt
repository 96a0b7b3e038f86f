use Rattle.std.proofs.Common.{◌-◌, ◌<◌, ◌≤◌, length}
use Rattle.rdb_base.specs.Halvings.{Halved, KeepsBound}
use Rattle.rdb_base.specs.Searches.{is_below_at}
use Rattle.rdb_base.proofs.run_search.place_of.Given as goal

abbrev pub invariant-halves : goal.invariant-halves
invariant-halves g l = record {
  places : Halved (is_below_at l.run l.key) (length l.run) l.low l.high;
  cost : KeepsBound (length l.run) l.fn.steps l.steps (l.high - l.low);
  later : l.fn.steps ≤ l.steps;
  some : l.high - l.low < length l.run → l.fn.steps < l.steps;
}

abbrev pub decreases-halves : goal.decreases-halves
decreases-halves g l = l.high - l.low
