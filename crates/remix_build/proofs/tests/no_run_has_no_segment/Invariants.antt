-- The ledger of the steps that reads take.
use Rattle.remix_build.proofs.tests.no_run_has_no_segment.Given as goal

abbrev pub ghosts-index_of_no_run : goal.ghosts-index_of_no_run
ghosts-index_of_no_run g a = record { name = a.blank.name; parts = a.blank.parts }
