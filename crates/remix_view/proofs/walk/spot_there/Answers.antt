use Rattle.std.proofs.Common.{ℕ, ◌<◌, arith, refl, sym, subst}
use Rattle.remix_view.proofs.WalkLemmas.{read_there, reach_there, spot_made}
use Rattle.remix_view.proofs.walk.spot_there.Goals as goal

pub offset-offset-requires-clause-run : goal.offset-offset-requires-clause-run
offset-offset-requires-clause-run c = subst (λ (r : ℕ). r < c.args.view.now.runs) (sym c.run_in-run.ensures) (read_there c.args.view.now c.args.segment c.args.place c.selector-selector.result c.selector-selector.ensures.formed c.requires c.selector-selector.ensures.selector).run

pub rank-rank-requires-clause-segment : goal.rank-rank-requires-clause-segment
rank-rank-requires-clause-segment c = (read_there c.args.view.now c.args.segment c.args.place c.selector-selector.result c.selector-selector.ensures.formed c.requires c.selector-selector.ensures.selector).segment

pub overflow_add-result : goal.overflow_add-result
overflow_add-result c =
    let run = subst (λ (r : ℕ). r < c.args.view.now.runs) (sym c.run_in-run.ensures) (read_there c.args.view.now c.args.segment c.args.place c.selector-selector.result c.selector-selector.ensures.formed c.requires c.selector-selector.ensures.selector).run in
    let low = reach_there c.args.view.now c.args.segment c.args.place c.run_in-run.result c.offset-offset.result c.rank-rank.result c.selector-selector.ensures.formed run c.offset-offset.ensures c.rank-rank.ensures in
    omega (arith, low)

pub returns : goal.returns
returns c = spot_made c.args.view.now c.args.segment c.args.place c.selector-selector.result c.run_in-run.result c.offset-offset.result c.rank-rank.result c.is_old.result c.is_deletion.result _ c.run_in-run.ensures c.is_old.ensures c.is_deletion.ensures c.selector-selector.ensures.selector c.offset-offset.ensures c.rank-rank.ensures refl
