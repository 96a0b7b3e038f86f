use Rattle.std.proofs.Common.{map}
use Rattle.overlay_view.proofs.ReadLemmas.{lends-none, lends-some}
use Rattle.overlay_view.proofs.reads.lent_older.Goals as goal

pub returns-in-None : goal.returns-in-None
returns-in-None g c = lends-none (map g.T.Runs.run c.args.runs.now) (g.T.Runs.run c.run_with-run.result.now) c.args.spot c.lent_value.result c.run_with-run.ensures.run c.lent_value.ensures c.in-None.is

pub returns-in-Some : goal.returns-in-Some
returns-in-Some g c = lends-some (map g.T.Runs.run c.args.runs.now) (g.T.Runs.run c.run_with-run.result.now) c.args.spot c.lent_value.result c.in-Some.value c.lent_key.result c.run_with-run.ensures.run c.lent_value.ensures c.in-Some.is c.lent_key.ensures.key
