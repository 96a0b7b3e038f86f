-- The ledger of the steps.
use Rattle.switch_bench.proofs.reading.entered.Given as goal

abbrev pub ghosts-counted_entries : goal.ghosts-counted_entries
ghosts-counted_entries g a = record { name = a.blank.name; parts = a.blank.parts }
