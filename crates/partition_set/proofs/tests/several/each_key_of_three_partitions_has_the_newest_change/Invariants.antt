-- The ledger of the steps that reads take.
use Rattle.partition_set.proofs.tests.several.each_key_of_three_partitions_has_the_newest_change.Given as goal

abbrev pub ghosts-compare_sets : goal.ghosts-compare_sets
ghosts-compare_sets g a = record { name = a.blank.name; parts = a.blank.parts }
