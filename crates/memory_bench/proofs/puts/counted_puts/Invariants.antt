use Rattle.std.proofs.Common.{◌≡◌}
use Rattle.worm_leaf.specs.Leaves.{unused}
use Rattle.memory_bench.proofs.puts.counted_puts.Given as goal

abbrev pub invariant-puts : goal.invariant-puts
invariant-puts g l = l.right ≡ unused
