use Rattle.std.proofs.Common.{◌≡◌, take}
use Rattle.partition_set.specs.Partitions.{runs_size, most_of}
use Rattle.partition_set.proofs.sums.size_of_runs.Given as goal

abbrev pub invariant-runs : goal.invariant-runs
invariant-runs g l = l.total ≡ most_of (runs_size g.T.Runs.run (take l.run-index l.runs))
