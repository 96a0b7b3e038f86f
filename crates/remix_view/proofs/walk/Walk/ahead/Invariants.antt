use Rattle.std.proofs.Common.{◌≡◌, ◌+◌, ◌*◌, ◌-◌, length}
use Rattle.remix_view.specs.Spots.{spots_from}
use Rattle.remix_view.proofs.walk.Walk.ahead.Given as goal

abbrev pub invariant-places : goal.invariant-places
invariant-places l = spots_from l.view l.segment l.place ≡ spots_from l.view l.fn.self.segment l.fn.self.place

abbrev pub decreases-places : goal.decreases-places
decreases-places l = 256 * (length l.view.segments - l.segment) + (255 - l.place)
