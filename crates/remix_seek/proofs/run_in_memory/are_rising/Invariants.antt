use Rattle.std.proofs.Common.{◌≤◌, ◌-◌, length, take}
use Rattle.rdb_base.specs.Runs.{IsRun}
use Rattle.remix_seek.proofs.run_in_memory.are_rising.Given as goal

abbrev pub invariant-pairs : goal.invariant-pairs
invariant-pairs l = IsRun (take l.at l.pairs) × (1 ≤ l.at)

abbrev pub decreases-pairs : goal.decreases-pairs
decreases-pairs l = length l.pairs - l.at
