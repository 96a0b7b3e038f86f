use Rattle.std.proofs.Common.{◌+◌, length, map, arith}
use Rattle.remix_seek.specs.declared.remix.Remix.{Remix}
use Rattle.remix_build.specs.Costs.{pairs_in}
use Rattle.remix_build.proofs.CostLemmas.{length-order, cost-same}
use Rattle.remix_build.proofs.building.build.Goals as goal

pub returns-clause-cost : goal.returns-clause-cost
returns-clause-cost g c =
    let pairs = length-order (map g.T.Runs.run c.args.runs.now) c.in_ok-order.order.items c.in_ok-order.ensures.order in
    cost-same c.seal.result c.in_ok-index.index (λ (remix : Remix). length remix.view.segments) (c.args.steps.now + pairs_in (map g.T.Runs.run c.args.runs.now)) c.packed.new.steps c.seal.ensures
    (omega (arith, pairs, c.in_ok-order.ensures.cost, c.in_ok-index.ensures.cost))
