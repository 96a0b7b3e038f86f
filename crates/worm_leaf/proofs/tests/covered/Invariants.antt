-- The ledger of the step.
use Rattle.worm_leaf.proofs.tests.covered.Given as goal

abbrev pub ghosts-counted : goal.ghosts-counted
ghosts-counted a = record { name = a.blank.name; parts = a.blank.parts }
