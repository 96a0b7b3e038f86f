use Rattle.std.proofs.Common.{◌≡◌, take}
use Rattle.partition_set.specs.Partitions.{set_size, most_of}
use Rattle.partition_set.proofs.set.PartitionSet.total.Given as goal

abbrev pub invariant-parts : goal.invariant-parts
invariant-parts g l = l.total ≡ most_of (set_size g.T.Runs.run (take l.part-index l.self))
