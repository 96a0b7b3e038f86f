use Rattle.std.proofs.Common.{map, length, sym, subst, arith, ◌<◌, List}
use Rattle.std.proofs.lemmas.List.{length-map}
use Rattle.rdb_base.specs.declared.pair.Pair.{Pair}
use Rattle.remix_seek.specs.Versions.{run_at}
use Rattle.remix_seek.proofs.ReadLemmas.{run_at-map}
use Rattle.partition_merge.proofs.PlaceLemmas.{there-run, there-place}
use Rattle.partition_merge.proofs.reads.run_with.Goals as goal

pub bounds-runs-run : goal.bounds-runs-run
bounds-runs-run g c = let inside = there-run (map g.T.Runs.run c.args.runs.now) c.args.run c.args.place c.requires in omega (arith, inside, length-map c.args.runs.now g.T.Runs.run)

pub offset_bounds-runs-run : goal.offset_bounds-runs-run
offset_bounds-runs-run g c = let inside = there-run (map g.T.Runs.run c.args.runs.now) c.args.run c.args.place c.requires in omega (arith, inside, length-map c.args.runs.now g.T.Runs.run)

pub returns-clause-run : goal.returns-clause-run
returns-clause-run g c =
    let inside = there-run (map g.T.Runs.run c.args.runs.now) c.args.run c.args.place c.requires in
    sym (run_at-map g.T.Runs.run c.args.runs.now c.args.run c.index-runs-run.result (omega (arith, inside, length-map c.args.runs.now g.T.Runs.run)) c.index-runs-run.is)

pub returns-clause-place : goal.returns-clause-place
returns-clause-place g c =
    let inside = there-run (map g.T.Runs.run c.args.runs.now) c.args.run c.args.place c.requires in
    subst (λ (run : List Pair). c.args.place < length run)
    (run_at-map g.T.Runs.run c.args.runs.now c.args.run c.index-runs-run.result (omega (arith, inside, length-map c.args.runs.now g.T.Runs.run)) c.index-runs-run.is)
    (there-place (run_at (map g.T.Runs.run c.args.runs.now) c.args.run) c.args.place c.requires)
