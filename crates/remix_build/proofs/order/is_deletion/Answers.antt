use Rattle.std.proofs.Common.{◌<◌, List, length, map, sym, subst}
use Rattle.rdb_base.specs.declared.pair.Pair.{Pair}
use Rattle.remix_seek.specs.Reads.{ValueAt}
use Rattle.remix_seek.specs.Versions.{run_at}
use Rattle.remix_seek.proofs.ReadLemmas.{run_at-map}
use Rattle.remix_build.proofs.MergeLemmas.{none_told, deletion_told}
use Rattle.remix_build.proofs.order.is_deletion.Goals as goal

pub lent_value-requires : goal.lent_value-requires
lent_value-requires g c = subst (λ (run : List Pair). c.args.place < length run) (run_at-map g.T.Runs.run c.args.runs.now c.args.run c.index-runs-run.result c.requires.run c.index-runs-run.is) c.requires.place

pub returns : goal.returns
returns g c = deletion_told (run_at (map g.T.Runs.run c.args.runs.now) c.args.run) c.args.place c.lent_value.result c.is_none.result (subst (λ (run : List Pair). ValueAt run c.args.place c.lent_value.result) (sym (run_at-map g.T.Runs.run c.args.runs.now c.args.run c.index-runs-run.result c.requires.run c.index-runs-run.is)) c.lent_value.ensures) (none_told c.lent_value.result c.is_none.result c.is_none.ensures)
