use Rattle.std.proofs.Common.{◌≡◌, take}
use Rattle.rdb_base.proofs.sorted_run.SortedRun.try_copy.Given as goal

-- the copies of the pairs that were seen
abbrev pub invariant-loop-pair : goal.invariant-loop-pair
invariant-loop-pair l = record {
  copied : l.pairs.items ≡ take l.pair-index l.pair-items;
}
