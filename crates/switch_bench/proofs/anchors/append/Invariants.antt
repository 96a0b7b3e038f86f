-- The ledger of the steps.
use Rattle.switch_bench.proofs.anchors.append.Given as goal

abbrev pub ghosts-counted_append : goal.ghosts-counted_append
ghosts-counted_append g a = record { name = a.blank.name; parts = a.blank.parts }
