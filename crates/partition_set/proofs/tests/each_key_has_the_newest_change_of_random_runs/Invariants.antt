-- The ledger of the steps that reads take.
use Rattle.partition_set.proofs.tests.each_key_has_the_newest_change_of_random_runs.Given as goal

abbrev pub ghosts-compare_sets : goal.ghosts-compare_sets
ghosts-compare_sets g a = record { name = a.blank.name; parts = a.blank.parts }
