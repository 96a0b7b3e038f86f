use Rattle.std.proofs.Common.{◌-◌, length, take}
use Rattle.rdb_base.specs.Runs.{AreBelow}
use Rattle.partition_merge.proofs.tests.are_below.Given as goal

abbrev pub invariant-pairs : goal.invariant-pairs
invariant-pairs l = AreBelow (take l.at l.pairs) l.key

abbrev pub decreases-pairs : goal.decreases-pairs
decreases-pairs l = length l.pairs - l.at
