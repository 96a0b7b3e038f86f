use Rattle.memory_bench.specs.Rising.{NoneAbove}
use Rattle.memory_bench.proofs.finds.anchors_of.Given as goal

abbrev pub invariant-leaves : goal.invariant-leaves
invariant-leaves g l = NoneAbove l.trie.added l.last.items
