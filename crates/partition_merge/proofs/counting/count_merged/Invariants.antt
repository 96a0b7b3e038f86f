-- The ledger of the steps that a walk takes.
use Rattle.partition_merge.proofs.counting.count_merged.Given as goal

abbrev pub ghosts-count_alone : goal.ghosts-count_alone
ghosts-count_alone g a = record { name = a.blank.name; parts = a.blank.parts }
