use Rattle.std.proofs.Common.{◌≡◌, ◌+◌, ◌-◌, ◌≤◌, length}
use Rattle.block_code.specs.Blocks.{head_size}
use Rattle.block_code.specs.Reading.{offsets_at}
use Rattle.block_code.proofs.fields.offsets_of.Given as goal

abbrev pub invariant-offsets : goal.invariant-offsets
invariant-offsets l = record {
  so_far : offsets_at l.fn.limits l.fn.count (head_size l.fn.count) l.fn.offsets l.fn.pairs ≡ offsets_at l.fn.limits (l.fn.count - l.done) l.place l.rest l.next;
  inside : l.place + length l.next ≤ head_size l.fn.count + length l.fn.pairs;
}
