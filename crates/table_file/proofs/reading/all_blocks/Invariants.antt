use Rattle.std.proofs.Common.{◌≡◌, ◌-◌, []}
use Rattle.table_file.specs.TableReading.{blocks_at, wrong_of}
use Rattle.table_file.proofs.reading.all_blocks.Given as goal

-- what was read is as it has to be, and what is left is judged as all was
abbrev pub invariant-turns : goal.invariant-turns
invariant-turns l = record {
  so_far : wrong_of (blocks_at l.fn.limits l.fn.tail l.fn.most [] l.fn.units l.fn.tail) ≡ wrong_of (blocks_at l.fn.limits l.fn.tail (l.fn.most - l.done) l.last l.units l.counts);
}
