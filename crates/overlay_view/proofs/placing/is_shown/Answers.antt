use Rattle.std.proofs.Common.{map}
use Rattle.overlay_view.proofs.ReadLemmas.{shows_key-read}
use Rattle.overlay_view.proofs.placing.is_shown.Goals as goal

pub returns-clause-shown : goal.returns-clause-shown
returns-clause-shown g c =
    shows_key-read (map g.T.Runs.run c.args.runs.now) (g.T.Runs.run c.run_with-run.result.now) c.args.spot c.lent_key.result.now c.args.key.now c.compare_bytes.result c.is_eq.result
    c.run_with-run.ensures.run c.if-spot.false c.lent_key.ensures.key c.compare_bytes.ensures c.is_eq.ensures
