use Rattle.std.proofs.Common.{◌-◌, length, take}
use Rattle.std.specs.Prelude.{Some}
use Rattle.partition_set.specs.Partitions.{IsWithin}
use Rattle.partition_set.proofs.tests.several.are_within.Given as goal

abbrev pub invariant-pairs : goal.invariant-pairs
invariant-pairs l = IsWithin l.low (Some l.high) (take l.at l.pairs)

abbrev pub decreases-pairs : goal.decreases-pairs
decreases-pairs l = length l.pairs - l.at
