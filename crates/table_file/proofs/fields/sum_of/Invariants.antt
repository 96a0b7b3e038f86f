use Rattle.std.proofs.Common.{◌≡◌, ◌-◌, ◌*◌, ◌≤◌}
use Rattle.table_file.specs.TableReading.{sum_at}
use Rattle.table_file.proofs.StepLemmas.{plus}
use Rattle.table_file.proofs.fields.sum_of.Given as goal

abbrev pub invariant-counts : goal.invariant-counts
invariant-counts l = record {
  so_far : sum_at l.fn.count l.fn.counts ≡ plus l.sum (sum_at (l.fn.count - l.done) l.rest);
  most : l.sum ≤ 65535 * l.done;
}
