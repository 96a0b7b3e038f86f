use Rattle.std.proofs.Common.{◌≡◌, ◌+◌, ◌*◌, ◌≤◌, ◌++◌, length, vec_capacity}
use Rattle.rdb_base.specs.Runs.{sizes}
use Rattle.block_code.specs.declared.format.TheConstants.{UNIT}
use Rattle.block_code.specs.Blocks.{offsets_from}
use Rattle.block_code.proofs.writing.add_offsets.Given as goal

abbrev pub invariant-offsets : goal.invariant-offsets
invariant-offsets l = record {
  so_far : l.out.items ++ offsets_from l.place l.rest ≡ l.initial.out.items ++ offsets_from l.fn.first l.fn.pairs;
  room : length l.out.items + 2 * length l.rest ≤ vec_capacity l.out;
  capacity : vec_capacity l.initial.out ≤ vec_capacity l.out;
  place : 1 ≤ length l.rest → l.place ≤ UNIT;
  one_unit : 2 ≤ length l.rest → l.place + sizes l.rest ≤ UNIT;
}

abbrev pub decreases-offsets : goal.decreases-offsets
decreases-offsets l = length l.rest
