use Rattle.std.proofs.Common.{arith}
use Rattle.remix_build.proofs.HeadLemmas.{heading_next}
use Rattle.remix_build.proofs.CostLemmas.{heads_there-push}
use Rattle.remix_build.proofs.heads.first_heads.Goals as goal

pub runs-preserved : goal.runs-preserved
runs-preserved g c = record {
  heads = heading_next g.T.Runs.run c.args.runs.now c.runs.heads.items c.push.new.self.items c.runs.run-index c.run-item.result c.head_at.result (omega (arith, c.runs-test.true)) c.run-item.is c.head_at.ensures.head c.in_ok-push.ensures.items c.runs.invariant.heads;
  cost = omega (arith, c.runs.invariant.cost, c.head_at.ensures.cost, heads_there-push c.runs.heads.items c.push.new.self.items c.head_at.result c.in_ok-push.ensures.items);
}
