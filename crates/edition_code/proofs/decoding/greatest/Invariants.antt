use Rattle.std.proofs.Common.{◌≡◌, length, max}
use Rattle.edition_code.specs.Editions.{greatest_base}
use Rattle.edition_code.proofs.decoding.greatest.Given as goal

abbrev pub invariant-parts : goal.invariant-parts
invariant-parts l = max l.most (greatest_base l.rest) ≡ greatest_base l.fn.parts

abbrev pub decreases-parts : goal.decreases-parts
decreases-parts l = length l.rest
