use Rattle.std.proofs.Common.{◌-◌, ◌<◌, length}
use Rattle.rdb_base.specs.Halvings.{Halved}
use Rattle.partition_set.specs.Bounds.{passes_at}
use Rattle.partition_set.proofs.ranges.bounds_passed.Given as goal

abbrev pub invariant-halves : goal.invariant-halves
invariant-halves g l = Halved (passes_at l.parts l.key) (length l.parts) l.low l.high × (0 < l.low)

abbrev pub decreases-halves : goal.decreases-halves
decreases-halves g l = l.high - l.low
