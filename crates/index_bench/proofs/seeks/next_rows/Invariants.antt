-- Each step leaves fewer spots.
use Rattle.std.proofs.Common.{◌≤◌, length}
use Rattle.remix_view.specs.Spots.{spots_from}
use Rattle.index_bench.proofs.seeks.next_rows.Given as goal

abbrev pub invariant-rows : goal.invariant-rows
invariant-rows l = l.found ≤ l.wanted

abbrev pub decreases-rows : goal.decreases-rows
decreases-rows l = length (spots_from l.view l.walk.segment l.walk.place)
