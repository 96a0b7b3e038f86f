-- The ledger of the steps.
use Rattle.table_switch.proofs.tests.made_anchor.Given as goal

abbrev pub ghosts-counted_anchor : goal.ghosts-counted_anchor
ghosts-counted_anchor a = record { name = a.blank.name; parts = a.blank.parts }
