use Rattle.std.proofs.Common.{map}
use Rattle.overlay_view.proofs.ReadLemmas.{copies-put, copies-del}
use Rattle.overlay_view.proofs.reads.copied_older.Goals as goal

pub returns-in_ok-key_at-in-Put : goal.returns-in_ok-key_at-in-Put
returns-in_ok-key_at-in-Put g c = copies-put (map g.T.Runs.run c.args.runs.now) (g.T.Runs.run c.run_with-run.result.now) c.args.spot c.in_ok-value.field-0 c.in-Put.value c.in_ok-key_at-in-Put.field-0 c.run_with-run.ensures.run c.in_ok-value.ensures c.in-Put.is c.in_ok-key_at-in-Put.ensures.key

pub returns-in-Del : goal.returns-in-Del
returns-in-Del g c = copies-del (map g.T.Runs.run c.args.runs.now) (g.T.Runs.run c.run_with-run.result.now) c.args.spot c.in_ok-value.field-0 c.run_with-run.ensures.run c.in_ok-value.ensures c.in-Del.is
