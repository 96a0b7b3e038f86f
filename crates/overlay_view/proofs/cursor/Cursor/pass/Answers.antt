use Rattle.std.proofs.Common.{ap, ◌∙◌}
use Rattle.rdb_base.specs.Levels.{live}
use Rattle.overlay_view.proofs.CursorLemmas.{rows-passed}
use Rattle.overlay_view.proofs.cursor.Cursor.pass.Goals as goal

pub returns-clause-rows : goal.returns-clause-rows
returns-clause-rows g c = c.settle.ensures.rows ∙ ap live c.step.ensures.pairs ∙ rows-passed g.T.Runs.run c.args.parts.now c.args.upper.now c.args.self.now c.requires.placed c.requires.sought
