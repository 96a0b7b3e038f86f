use Rattle.std.proofs.Common.{map, length, sym, subst, arith, ◌<◌, List}
use Rattle.std.proofs.lemmas.List.{length-map}
use Rattle.rdb_base.specs.declared.pair.Pair.{Pair}
use Rattle.remix_seek.specs.Versions.{run_at}
use Rattle.remix_seek.proofs.ReadLemmas.{run_at-map}
use Rattle.overlay_view.proofs.ReadLemmas.{there-run, there-place}
use Rattle.overlay_view.proofs.reads.run_with.Goals as goal

pub bounds-runs-spot : goal.bounds-runs-spot
bounds-runs-spot g c = let inside = there-run (map g.T.Runs.run c.args.runs.now) c.args.spot.run c.args.spot.place c.requires in omega (arith, inside, length-map c.args.runs.now g.T.Runs.run)

pub offset_bounds-runs-spot : goal.offset_bounds-runs-spot
offset_bounds-runs-spot g c = let inside = there-run (map g.T.Runs.run c.args.runs.now) c.args.spot.run c.args.spot.place c.requires in omega (arith, inside, length-map c.args.runs.now g.T.Runs.run)

pub returns-clause-run : goal.returns-clause-run
returns-clause-run g c =
    let inside = there-run (map g.T.Runs.run c.args.runs.now) c.args.spot.run c.args.spot.place c.requires in
    sym (run_at-map g.T.Runs.run c.args.runs.now c.args.spot.run c.index-runs-spot.result (omega (arith, inside, length-map c.args.runs.now g.T.Runs.run)) c.index-runs-spot.is)

pub returns-clause-place : goal.returns-clause-place
returns-clause-place g c =
    let inside = there-run (map g.T.Runs.run c.args.runs.now) c.args.spot.run c.args.spot.place c.requires in
    subst (λ (run : List Pair). c.args.spot.place < length run)
    (run_at-map g.T.Runs.run c.args.runs.now c.args.spot.run c.index-runs-spot.result (omega (arith, inside, length-map c.args.runs.now g.T.Runs.run)) c.index-runs-spot.is)
    (there-place (run_at (map g.T.Runs.run c.args.runs.now) c.args.spot.run) c.args.spot.place c.requires)
