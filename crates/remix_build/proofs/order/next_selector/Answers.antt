use Rattle.std.proofs.Common.{map}
use Rattle.std.specs.Prelude.{slice_get}
use Rattle.remix_seek.specs.Versions.{run_at}
use Rattle.remix_build.specs.Heads.{lent_key}
use Rattle.remix_build.proofs.MergeLemmas.{selector_told, place_there}
use Rattle.remix_build.proofs.order.next_selector.Goals as goal

pub is_deletion-deletion-requires-clause-place : goal.is_deletion-deletion-requires-clause-place
is_deletion-deletion-requires-clause-place g c = place_there (run_at (map g.T.Runs.run c.args.runs.now) c.args.run) c.args.place c.args.key.now c.requires.key

pub returns : goal.returns
returns g c = selector_told (lent_key c.args.last) c.args.run c.args.place (slice_get (run_at (map g.T.Runs.run c.args.runs.now) c.args.run) c.args.place) c.args.key.now c.is_same_key-old.result c.is_deletion-deletion.result c.selector_from.result c.requires.key c.selector_from.ensures c.is_deletion-deletion.ensures c.is_same_key-old.ensures
