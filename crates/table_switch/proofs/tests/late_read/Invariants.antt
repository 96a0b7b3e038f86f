-- The ledger of the steps.
use Rattle.table_switch.proofs.tests.late_read.Given as goal

abbrev pub ghosts-counted_late_read : goal.ghosts-counted_late_read
ghosts-counted_late_read g a = record { name = a.blank.name; parts = a.blank.parts }
