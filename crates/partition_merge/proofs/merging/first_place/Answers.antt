use Rattle.std.proofs.Common.{map, sym, ap, subst, ◌∙◌}
use Rattle.remix_view.specs.declared.walk.Walk.{Walk}
use Rattle.partition_merge.specs.Merging.{IsMergeAt, rows_left}
use Rattle.partition_merge.proofs.BeginLemmas.{merge-begins, rows-begin}
use Rattle.partition_merge.proofs.merging.first_place.Goals as goal

pub returns-clause-goes_on : goal.returns-clause-goes_on
returns-clause-goes_on g c =
    subst (λ (w : Walk). IsMergeAt (map g.T.Runs.run c.args.runs.now) c.args.remix.now.view c.args.newer.now (record { walk = w; at = 0 })) (sym c.at.ensures)
    (merge-begins (map g.T.Runs.run c.args.runs.now) c.args.remix.now.view c.args.remix.now.anchors c.args.newer.now c.segments-segments.ensures.formed c.requires.index c.requires.rises)

pub returns-clause-rows : goal.returns-clause-rows
returns-clause-rows g c =
    ap (λ (w : Walk). rows_left (map g.T.Runs.run c.args.runs.now) c.args.remix.now.view c.args.newer.now (record { walk = w; at = 0 })) c.at.ensures
    ∙ rows-begin (map g.T.Runs.run c.args.runs.now) c.args.remix.now.view c.args.remix.now.anchors c.args.newer.now c.segments-segments.ensures.formed c.requires.index
