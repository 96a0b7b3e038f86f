use Rattle.std.proofs.Common.{◌≡◌, ◌+◌, map}
use Rattle.remix_build.proofs.HeadLemmas.{Heading}
use Rattle.remix_build.specs.Costs.{heads_there}
use Rattle.remix_build.proofs.heads.first_heads.Given as goal

abbrev pub invariant-runs : goal.invariant-runs
invariant-runs g l = record {
  heads : Heading (map g.T.Runs.run l.runs) l.heads.items l.run-index;
  cost : l.steps ≡ l.fn.steps + heads_there l.heads.items;
}
