use Rattle.std.proofs.Common.{◌≡◌, ◌+◌, ◌≤◌, ◌++◌, length, vec_capacity}
use Rattle.std.specs.List.{AllByRecursion}
use Rattle.edition_code.specs.Editions.{part_fields}
use Rattle.edition_code.specs.Laws.{IsPartHeld, IsPartWithin, parts_size}
use Rattle.edition_code.proofs.encoding.add_parts.Given as goal

abbrev pub invariant-parts : goal.invariant-parts
invariant-parts l = record {
  so_far : l.out.items ++ part_fields l.rest ≡ l.initial.out.items ++ part_fields l.fn.parts;
  held : AllByRecursion IsPartHeld l.rest → AllByRecursion IsPartHeld l.fn.parts;
  within : AllByRecursion IsPartWithin l.rest;
  len : length l.out.items + parts_size l.rest ≡ length l.initial.out.items + parts_size l.fn.parts;
  capacity : vec_capacity l.initial.out ≤ vec_capacity l.out;
}

abbrev pub decreases-parts : goal.decreases-parts
decreases-parts l = length l.rest
