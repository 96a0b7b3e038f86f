use Rattle.std.proofs.Common.{◌≡◌, ◌+◌, ◌*◌, ◌≤◌, length}
use Rattle.std.specs.List.{AllByRecursion}
use Rattle.edition_code.specs.Laws.{IsPartWithin, parts_size}
use Rattle.edition_code.proofs.encoding.parts_len.Given as goal

abbrev pub invariant-parts : goal.invariant-parts
invariant-parts l = record {
  within : AllByRecursion IsPartWithin l.rest;
  sum : l.sum + parts_size l.rest ≡ parts_size l.fn.parts;
  most : l.sum + 1467 * length l.rest ≤ 1467 * length l.fn.parts;
}

abbrev pub decreases-parts : goal.decreases-parts
decreases-parts l = length l.rest
