-- The ledger of the steps that reads take.
use Rattle.remix_build.proofs.tests.generated.random_runs_are_walked_and_sought_as_a_plain_sort.Given as goal

abbrev pub ghosts-compare_sets : goal.ghosts-compare_sets
ghosts-compare_sets g a = record { name = a.blank.name; parts = a.blank.parts }
