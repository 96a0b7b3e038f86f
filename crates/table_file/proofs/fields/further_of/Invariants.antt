use Rattle.std.proofs.Common.{◌≡◌, ◌-◌}
use Rattle.table_file.specs.TableReading.{further_at}
use Rattle.table_file.proofs.fields.further_of.Given as goal

abbrev pub invariant-units : goal.invariant-units
invariant-units l = record {
  so_far : further_at l.fn.count l.fn.counts ≡ further_at (l.fn.count - l.done) l.rest;
}
