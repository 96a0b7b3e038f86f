use Rattle.std.proofs.Common.{◌≡◌, ◌+◌, ◌≤◌, ◌++◌, length, vec_capacity}
use Rattle.rdb_base.specs.Runs.{sizes}
use Rattle.block_code.specs.Blocks.{pair_fields}
use Rattle.block_code.proofs.writing.add_pairs.Given as goal

abbrev pub invariant-pairs : goal.invariant-pairs
invariant-pairs l = record {
  so_far : l.out.items ++ pair_fields l.rest ≡ l.initial.out.items ++ pair_fields l.fn.pairs;
  room : length l.out.items + sizes l.rest ≤ vec_capacity l.out;
  capacity : vec_capacity l.initial.out ≤ vec_capacity l.out;
}

abbrev pub decreases-pairs : goal.decreases-pairs
decreases-pairs l = length l.rest
