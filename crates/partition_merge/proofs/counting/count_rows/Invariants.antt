use Rattle.std.proofs.Common.{◌∷◌, length, map}
use Rattle.rdb_base.specs.Levels.{merged}
use Rattle.partition_merge.specs.Merging.{IsMergeAt, rows_left}
use Rattle.partition_merge.specs.Counting.{IsCount}
use Rattle.partition_merge.proofs.counting.count_rows.Given as goal

abbrev pub invariant-rows : goal.invariant-rows
invariant-rows g l =
    IsCount (merged (l.newer ∷ map g.T.Runs.run l.runs)) (rows_left (map g.T.Runs.run l.runs) l.remix.view l.newer l.place) l.counted
    × IsMergeAt (map g.T.Runs.run l.runs) l.remix.view l.newer l.place

abbrev pub decreases-rows : goal.decreases-rows
decreases-rows g l = length (rows_left (map g.T.Runs.run l.runs) l.remix.view l.newer l.place)
