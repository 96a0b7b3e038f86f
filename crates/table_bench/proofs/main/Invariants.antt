-- The ledger of the steps that reads take.
use Rattle.table_bench.proofs.main.Given as goal

abbrev pub ghosts-sum_of_load : goal.ghosts-sum_of_load
ghosts-sum_of_load a = record { name = a.blank.name; parts = a.blank.parts }
