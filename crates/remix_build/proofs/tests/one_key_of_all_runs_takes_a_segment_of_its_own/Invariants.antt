-- The ledger of the steps that reads take.
use Rattle.remix_build.proofs.tests.one_key_of_all_runs_takes_a_segment_of_its_own.Given as goal

abbrev pub ghosts-index_of_eight_runs : goal.ghosts-index_of_eight_runs
ghosts-index_of_eight_runs g a = record { name = a.blank.name; parts = a.blank.parts }
