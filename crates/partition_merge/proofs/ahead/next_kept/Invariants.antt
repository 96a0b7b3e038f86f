use Rattle.std.proofs.Common.{◌≡◌, length}
use Rattle.remix_view.specs.Spots.{spots_from}
use Rattle.partition_merge.specs.Merging.{kept_from}
use Rattle.partition_merge.proofs.ahead.next_kept.Given as goal

abbrev pub invariant-spots : goal.invariant-spots
invariant-spots l = (kept_from l.view l.here ≡ kept_from l.view l.fn.walk) × (l.after ≡ l.here)

abbrev pub decreases-spots : goal.decreases-spots
decreases-spots l = length (spots_from l.view l.after.segment l.after.place)
