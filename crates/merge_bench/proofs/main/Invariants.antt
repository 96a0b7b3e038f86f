-- The ledger of the steps that reads take.
use Rattle.merge_bench.proofs.main.Given as goal

abbrev pub ghosts-sum_of : goal.ghosts-sum_of
ghosts-sum_of a = record { name = a.blank.name; parts = a.blank.parts }
