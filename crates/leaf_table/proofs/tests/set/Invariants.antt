-- The ledger of the steps.
use Rattle.leaf_table.proofs.tests.set.Given as goal

abbrev pub ghosts-counted_set : goal.ghosts-counted_set
ghosts-counted_set a = record { name = a.blank.name; parts = a.blank.parts }
