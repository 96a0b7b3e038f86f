-- The ledger of the steps.
use Rattle.memory_bench.proofs.finds.find_all.Given as goal

abbrev pub ghosts-counted_finds : goal.ghosts-counted_finds
ghosts-counted_finds a = record { name = a.blank.name; parts = a.blank.parts }
