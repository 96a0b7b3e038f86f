use Rattle.std.proofs.Common.{◌≡◌, ◌*◌, ◌≤◌, take}
use Rattle.rdb_base.specs.Runs.{sizes}
use Rattle.rdb_base.specs.declared.limits.TheConstants.{PAIR_MAX}
use Rattle.block_code.proofs.writing.sizes_of.Given as goal

-- the sum of the pairs that were seen
abbrev pub invariant-loop-pair : goal.invariant-loop-pair
invariant-loop-pair l = record {
  sum : l.sum ≡ sizes (take l.pair-index l.fn.pairs);
  most : l.sum ≤ PAIR_MAX * l.pair-index;
}
