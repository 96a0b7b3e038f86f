use Rattle.std.proofs.Common.{◌≡◌, ◌++◌, ◌-◌, ◌*◌}
use Rattle.block_code.specs.declared.format.TheConstants.{UNIT}
use Rattle.table_file.specs.BlockPlaces.{blocks_told}
use Rattle.table_file.proofs.block_places.blocks_of.Given as goal

abbrev pub invariant-units : goal.invariant-units
invariant-units l = record {
  so_far : blocks_told l.fn.units 0 l.fn.counts ≡ l.found.items ++ blocks_told (l.fn.units - l.unit) (UNIT * l.unit) l.rest;
}
