use Rattle.std.proofs.Common.{◌≡◌, length, map}
use Rattle.partition_merge.specs.Merging.{IsMergeAt, pairs_left, rows_left}
use Rattle.partition_merge.proofs.merging.next_row.Given as goal

abbrev pub invariant-pairs : goal.invariant-pairs
invariant-pairs g l =
    (rows_left (map g.T.Runs.run l.runs) l.view l.newer l.place ≡ rows_left (map g.T.Runs.run l.runs) l.view l.newer l.fn.place)
    × IsMergeAt (map g.T.Runs.run l.runs) l.view l.newer l.place

abbrev pub decreases-pairs : goal.decreases-pairs
decreases-pairs g l = length (pairs_left (map g.T.Runs.run l.runs) l.view l.newer l.place)
