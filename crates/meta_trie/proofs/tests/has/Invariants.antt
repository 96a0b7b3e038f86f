-- The ledger of the steps.
use Rattle.meta_trie.proofs.tests.has.Given as goal

abbrev pub ghosts-counted_has : goal.ghosts-counted_has
ghosts-counted_has a = record { name = a.blank.name; parts = a.blank.parts }
