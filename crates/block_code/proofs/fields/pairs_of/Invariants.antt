use Rattle.std.proofs.Common.{◌≡◌, ◌≤◌, ◌-◌}
use Rattle.block_code.specs.Reading.{pairs_at, ends_of}
use Rattle.block_code.proofs.StepLemmas.{more_of}
use Rattle.block_code.proofs.fields.pairs_of.Given as goal

abbrev pub invariant-pairs : goal.invariant-pairs
invariant-pairs l = record {
  so_far : ends_of l.fn.last (pairs_at l.fn.limits l.fn.count l.fn.last l.fn.bytes) ≡ more_of l.done (ends_of l.key (pairs_at l.fn.limits (l.fn.count - l.done) l.key l.rest));
  near : l.done ≤ l.fn.count;
}
