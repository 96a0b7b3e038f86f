use Rattle.std.proofs.Common.{length, ap, ◌∙◌}
use Rattle.overlay_view.proofs.PlacedLemmas.{length-placed}
use Rattle.overlay_view.proofs.upper.Upper.place.Goals as goal

pub invariant_of-result : goal.invariant_of-result
invariant_of-result g c = length-placed g.T.Runs.run c.args.parts.now c.as_slice.result.now c.in_ok-placements.placements.items c.in_ok-placements.ensures.placed ∙ ap length c.as_slice.ensures.pairs
