-- The ledger of the steps that reads take.
use Rattle.remix_seek.proofs.tests.a_run_in_memory_is_read_by_place.Given as goal

abbrev pub ghosts-read_by_place : goal.ghosts-read_by_place
ghosts-read_by_place g a = record { name = a.blank.name; parts = a.blank.parts }
