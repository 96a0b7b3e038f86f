-- The ledger of the steps that a lookup takes.
use Rattle.rdb_base.proofs.run_tests.finds.Given as goal

abbrev pub ghosts-found : goal.ghosts-found
ghosts-found a = record { name = a.blank.name; parts = a.blank.parts }
