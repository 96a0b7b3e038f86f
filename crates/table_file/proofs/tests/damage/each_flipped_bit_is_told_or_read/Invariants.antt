-- The ledger of the steps that reads take.
use Rattle.table_file.proofs.tests.damage.each_flipped_bit_is_told_or_read.Given as goal

abbrev pub ghosts-all_damaged : goal.ghosts-all_damaged
ghosts-all_damaged g a = record { name = a.blank.name; parts = a.blank.parts }
