use Rattle.std.proofs.Common.{◌≡◌, length}
use Rattle.overlay_view.specs.Cursors.{GoesOn, pairs_left, rows_left}
use Rattle.overlay_view.proofs.cursor.Cursor.settle.Given as goal

abbrev pub invariant-deletions : goal.invariant-deletions
invariant-deletions g l = (rows_left g.T.Runs.run l.parts l.upper l.self ≡ rows_left g.T.Runs.run l.fn.parts l.fn.upper l.fn.self) × GoesOn g.T.Runs.run l.parts l.self

abbrev pub decreases-deletions : goal.decreases-deletions
decreases-deletions g l = length (pairs_left g.T.Runs.run l.parts l.upper l.self)
