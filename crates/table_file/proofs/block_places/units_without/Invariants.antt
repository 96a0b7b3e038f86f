use Rattle.std.proofs.Common.{◌≡◌, ◌+◌, ◌-◌}
use Rattle.table_file.specs.BlockPlaces.{further_units}
use Rattle.table_file.proofs.block_places.units_without.Given as goal

abbrev pub invariant-units : goal.invariant-units
invariant-units l = record {
  so_far : further_units l.fn.most l.fn.counts ≡ l.done + further_units (l.fn.most - l.done) l.rest;
}
