-- The ledger of the steps that a search takes.
use Rattle.partition_set.proofs.set.PartitionSet.get.Given as goal

abbrev pub ghosts-get_alone : goal.ghosts-get_alone
ghosts-get_alone g a = record { name = a.blank.name; parts = a.blank.parts }
