use Rattle.std.proofs.Common.{sym, ◌∙◌}
use Rattle.overlay_view.specs.Cursors.{pairs_left}
use Rattle.overlay_view.proofs.CursorLemmas.{deletion-first, rows-deletion, fewer-left}
use Rattle.overlay_view.proofs.cursor.Cursor.settle.Goals as goal

pub deletions-smaller : goal.deletions-smaller
deletions-smaller g c =
    fewer-left (pairs_left g.T.Runs.run c.args.parts.now c.args.upper.now c.deletions.self) (pairs_left g.T.Runs.run c.args.parts.now c.args.upper.now c.step.new.self)
    (deletion-first g.T.Runs.run c.args.parts.now c.args.upper.now c.deletions.self c.requires.placed c.deletions.invariant.1 (sym c.is_at_deletion.ensures ∙ c.deletions-test.true)) c.step.ensures.pairs

pub deletions-preserved : goal.deletions-preserved
deletions-preserved g c = (
  rows-deletion (pairs_left g.T.Runs.run c.args.parts.now c.args.upper.now c.deletions.self) (pairs_left g.T.Runs.run c.args.parts.now c.args.upper.now c.step.new.self)
      (deletion-first g.T.Runs.run c.args.parts.now c.args.upper.now c.deletions.self c.requires.placed c.deletions.invariant.1 (sym c.is_at_deletion.ensures ∙ c.deletions-test.true)) c.step.ensures.pairs
      ∙ c.deletions.invariant.0,
  c.step.ensures.goes_on,
)
