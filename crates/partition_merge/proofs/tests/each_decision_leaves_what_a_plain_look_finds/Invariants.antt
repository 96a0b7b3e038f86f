-- The ledger of the steps of building an index.
use Rattle.partition_merge.proofs.tests.each_decision_leaves_what_a_plain_look_finds.Given as goal

abbrev pub ghosts-merge_cases : goal.ghosts-merge_cases
ghosts-merge_cases g a = record { name = a.blank.name; parts = a.blank.parts }
