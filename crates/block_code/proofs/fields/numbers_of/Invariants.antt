use Rattle.std.proofs.Common.{◌≡◌, ◌-◌}
use Rattle.block_code.specs.Reading.{numbers_at}
use Rattle.block_code.proofs.fields.numbers_of.Given as goal

abbrev pub invariant-numbers : goal.invariant-numbers
invariant-numbers l = record {
  so_far : numbers_at l.fn.count l.fn.bytes ≡ numbers_at (l.fn.count - l.done) l.rest;
}
