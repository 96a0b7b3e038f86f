-- The ledger of the steps.
use Rattle.table_switch.proofs.tests.counted.Given as goal

abbrev pub ghosts-counted_question : goal.ghosts-counted_question
ghosts-counted_question g a = record { name = a.blank.name; parts = a.blank.parts }
