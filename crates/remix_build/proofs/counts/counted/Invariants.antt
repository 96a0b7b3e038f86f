use Rattle.remix_build.proofs.StepLemmas.{Counting}
use Rattle.remix_build.proofs.counts.counted.Given as goal

abbrev pub invariant-runs : goal.invariant-runs
invariant-runs l = Counting l.counts l.selectors l.later.items l.run
