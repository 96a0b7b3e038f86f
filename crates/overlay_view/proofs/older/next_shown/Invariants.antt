use Rattle.std.proofs.Common.{◌≡◌, length}
use Rattle.remix_view.specs.Spots.{spots_from, IsAhead}
use Rattle.overlay_view.specs.Older.{shown_from}
use Rattle.overlay_view.proofs.older.next_shown.Given as goal

abbrev pub invariant-spots : goal.invariant-spots
invariant-spots l =
    (shown_from l.view l.after ≡ shown_from l.view l.fn.walk)
    × (l.here ≡ (l.after.segment, l.after.place))
    × IsAhead l.view l.after.segment l.after.place

abbrev pub decreases-spots : goal.decreases-spots
decreases-spots l = length (spots_from l.view l.after.segment l.after.place)
