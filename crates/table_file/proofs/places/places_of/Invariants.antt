use Rattle.std.proofs.Common.{◌≡◌, ◌++◌, ◌-◌, ◌*◌}
use Rattle.block_code.specs.declared.format.TheConstants.{UNIT}
use Rattle.table_file.specs.Held.{places_of, places_of_units}
use Rattle.table_file.proofs.places.places_of.Given as goal

abbrev pub invariant-units : goal.invariant-units
invariant-units l = record {
  so_far : places_of l.fn.units l.fn.bytes ≡ l.places.items ++ places_of_units (l.fn.units - l.unit) (UNIT * l.unit) l.left l.counts;
}
