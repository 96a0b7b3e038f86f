use Rattle.std.proofs.Common.{◌≡◌, ◌-◌}
use Rattle.block_code.specs.Reading.{zeros_at}
use Rattle.block_code.proofs.fields.zeros_of.Given as goal

abbrev pub invariant-zeros : goal.invariant-zeros
invariant-zeros l = record {
  so_far : zeros_at l.fn.count l.fn.bytes ≡ zeros_at (l.fn.count - l.done) l.rest;
}
