use Rattle.std.proofs.Common.{take}
use Rattle.overlay_view.specs.Placements.{ArePlaced, PlaceCost}
use Rattle.overlay_view.proofs.placing.placements_of.Given as goal

abbrev pub invariant-rows : goal.invariant-rows
invariant-rows g l = ArePlaced g.T.Runs.run l.parts (take l.row-index l.rows) l.placements.items × PlaceCost l.parts (take l.row-index l.rows) l.fn.steps l.steps
