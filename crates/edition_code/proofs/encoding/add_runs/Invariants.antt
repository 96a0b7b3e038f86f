use Rattle.std.proofs.Common.{◌≡◌, ◌+◌, ◌*◌, ◌≤◌, ◌++◌, length, vec_capacity}
use Rattle.std.specs.List.{AllByRecursion}
use Rattle.edition_code.specs.Editions.{run_fields}
use Rattle.edition_code.specs.Laws.{IsRunHeld}
use Rattle.edition_code.proofs.encoding.add_runs.Given as goal

abbrev pub invariant-runs : goal.invariant-runs
invariant-runs l = record {
  so_far : l.out.items ++ run_fields l.rest ≡ l.initial.out.items ++ run_fields l.fn.runs;
  held : AllByRecursion IsRunHeld l.rest → AllByRecursion IsRunHeld l.fn.runs;
  len : length l.out.items + 48 * length l.rest ≡ length l.initial.out.items + 48 * length l.fn.runs;
  capacity : vec_capacity l.initial.out ≤ vec_capacity l.out;
}

abbrev pub decreases-runs : goal.decreases-runs
decreases-runs l = length l.rest
