-- The ledger of the steps.
use Rattle.memory_rows.proofs.memory_rows.MemoryRows.reserve.Given as goal

abbrev pub ghosts-make_room : goal.ghosts-make_room
ghosts-make_room a = record { name = a.blank.name; parts = a.blank.parts }
