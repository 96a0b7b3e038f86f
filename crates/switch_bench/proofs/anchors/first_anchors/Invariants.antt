-- The ledger of the steps.
use Rattle.switch_bench.proofs.anchors.first_anchors.Given as goal

abbrev pub ghosts-counted_anchors : goal.ghosts-counted_anchors
ghosts-counted_anchors a = record { name = a.blank.name; parts = a.blank.parts }
