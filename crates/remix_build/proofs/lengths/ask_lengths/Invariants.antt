use Rattle.std.proofs.Common.{take, map}
use Rattle.remix_build.specs.Packing.{AreRuns}
use Rattle.remix_build.proofs.lengths.ask_lengths.Given as goal

abbrev pub invariant-runs : goal.invariant-runs
invariant-runs g l = AreRuns (take l.run-index (map g.T.Runs.run l.runs))
