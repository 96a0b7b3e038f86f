use Rattle.std.proofs.Common.{◌<◌, ℕ, List, length, map, sym, subst, arith}
use Rattle.std.specs.Prelude.{slice_index, IfOk}
use Rattle.rdb_base.specs.declared.pair.Pair.{Pair}
use Rattle.remix_seek.specs.Reads.{KeyAt}
use Rattle.remix_seek.specs.Versions.{run_at}
use Rattle.remix_seek.proofs.ReadLemmas.{run_at-map}
use Rattle.remix_build.proofs.packing.anchor_of.Goals as goal

pub key_at-requires : goal.key_at-requires
key_at-requires g c =
    subst (λ (run : List Pair). slice_index c.args.counts.now c.run_in-run.result < length run)
    (run_at-map g.T.Runs.run c.args.runs.now c.run_in-run.result c.index-runs-run.result (omega (arith, c.run_in-run.ensures, c.requires.run)) c.index-runs-run.is)
    (subst (λ (r : ℕ). slice_index c.args.counts.now r < length (run_at (map g.T.Runs.run c.args.runs.now) r)) (sym c.run_in-run.ensures) c.requires.place)

pub returns-clause-key : goal.returns-clause-key
returns-clause-key g c =
    subst (λ (r : ℕ). IfOk c.key_at.result (λ key. KeyAt (run_at (map g.T.Runs.run c.args.runs.now) r) (slice_index c.args.counts.now r) key)) c.run_in-run.ensures
    (subst (λ (run : List Pair). IfOk c.key_at.result (λ key. KeyAt run (slice_index c.args.counts.now c.run_in-run.result) key))
    (sym (run_at-map g.T.Runs.run c.args.runs.now c.run_in-run.result c.index-runs-run.result (omega (arith, c.run_in-run.ensures, c.requires.run)) c.index-runs-run.is))
    c.key_at.ensures.key)
