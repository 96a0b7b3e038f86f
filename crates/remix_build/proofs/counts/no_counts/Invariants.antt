use Rattle.std.proofs.Common.{◌≡◌, replicate}
use Rattle.remix_build.proofs.counts.no_counts.Given as goal

abbrev pub invariant-runs : goal.invariant-runs
invariant-runs l = l.counts.items ≡ replicate l._run 0
