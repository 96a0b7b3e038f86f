-- The ledger of the steps that a walk takes.
use Rattle.partition_merge.proofs.carrying.carry_out.Given as goal

abbrev pub ghosts-carry_alone : goal.ghosts-carry_alone
ghosts-carry_alone g a = record { name = a.blank.name; parts = a.blank.parts }
