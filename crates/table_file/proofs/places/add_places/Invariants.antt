use Rattle.std.proofs.Common.{◌≡◌, ◌++◌, ◌-◌}
use Rattle.table_file.specs.Held.{places_in}
use Rattle.table_file.proofs.places.add_places.Given as goal

abbrev pub invariant-offsets : goal.invariant-offsets
invariant-offsets l = record {
  so_far : l.initial.places.items ++ places_in l.fn.block l.fn.count l.fn.offsets ≡ l.places.items ++ places_in l.fn.block (l.fn.count - l.done) l.rest;
}
