-- The ledger of the steps.
use Rattle.memory_bench.proofs.puts.put_all.Given as goal

abbrev pub ghosts-counted_puts : goal.ghosts-counted_puts
ghosts-counted_puts a = record { name = a.blank.name; parts = a.blank.parts }
