-- The ledger of the steps of building an index.
use Rattle.partition_merge.proofs.tests.large.a_part_is_closed_by_the_row_that_has_no_room.Given as goal

abbrev pub ghosts-cut_cases : goal.ghosts-cut_cases
ghosts-cut_cases g a = record { name = a.blank.name; parts = a.blank.parts }
