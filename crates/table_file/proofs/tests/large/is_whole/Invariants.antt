-- The ledger of the steps that reads take.
use Rattle.table_file.proofs.tests.large.is_whole.Given as goal

abbrev pub ghosts-has_rows : goal.ghosts-has_rows
ghosts-has_rows a = record { name = a.blank.name; parts = a.blank.parts }
