-- The ledger of the step.
use Rattle.worm_core.proofs.covering.is_covered.Given as goal

abbrev pub ghosts-counted : goal.ghosts-counted
ghosts-counted a = record { name = a.blank.name; parts = a.blank.parts }
