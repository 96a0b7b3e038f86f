use Rattle.std.proofs.Common.{◌≡◌, ◌*◌, ◌≤◌, ◌^◌, take}
use Rattle.rdb_base.specs.Runs.{sizes}
use Rattle.table_file.specs.Held.{pairs_held}
use Rattle.table_file.proofs.held.size_of_pairs.Given as goal

-- the sizes of the pairs that were seen
abbrev pub invariant-places : goal.invariant-places
invariant-places l = record {
  sum : l.sum ≡ sizes (pairs_held l.fn.bytes (take l.start-index l.fn.starts));
  most : l.sum ≤ 2 ^ 64 * l.start-index;
}
