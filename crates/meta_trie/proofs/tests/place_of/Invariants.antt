use Rattle.std.proofs.Common.{◌≤◌, ◌-◌, length}
use Rattle.meta_trie.proofs.tests.place_of.Given as goal

abbrev pub invariant-halves : goal.invariant-halves
invariant-halves l = record { ordered : l.low ≤ l.high; inside : l.high ≤ length l.sorted }

abbrev pub decreases-halves : goal.decreases-halves
decreases-halves l = l.high - l.low
