use Rattle.std.proofs.Common.{◌≡◌, ◌-◌, ◌++◌}
use Rattle.edition_code.specs.Editions.{run_numbers}
use Rattle.edition_code.specs.Reading.{runs_at}
use Rattle.edition_code.proofs.ReadLemmas.{after}
use Rattle.edition_code.proofs.files.runs.Given as goal

abbrev pub invariant-runs : goal.invariant-runs
invariant-runs l = record {
  so_far : runs_at l.fn.count l.fn.next l.initial.seen l.fn.bytes ≡ after l.runs.items (runs_at (l.fn.count - l.done) l.fn.next l.seen l.rest);
  seen : l.seen ≡ l.initial.seen ++ run_numbers l.runs.items;
}
