-- The ledger of the steps.
use Rattle.table_switch.proofs.tests.enter.Given as goal

abbrev pub ghosts-counted_entry : goal.ghosts-counted_entry
ghosts-counted_entry g a = record { name = a.blank.name; parts = a.blank.parts }
