-- The ledger of the steps.
use Rattle.switch_bench.proofs.reading.found.Given as goal

abbrev pub ghosts-counted_finds : goal.ghosts-counted_finds
ghosts-counted_finds a = record { name = a.blank.name; parts = a.blank.parts }
