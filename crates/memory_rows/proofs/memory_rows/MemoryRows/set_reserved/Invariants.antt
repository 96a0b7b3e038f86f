-- The ledger of the steps.
use Rattle.memory_rows.proofs.memory_rows.MemoryRows.set_reserved.Given as goal

abbrev pub ghosts-set_in : goal.ghosts-set_in
ghosts-set_in a = record { name = a.blank.name; parts = a.blank.parts }
