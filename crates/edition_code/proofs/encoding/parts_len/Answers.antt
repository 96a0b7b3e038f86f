use Rattle.std.proofs.Common.{List, subst, ap, length, arith}
use Rattle.std.specs.List.{AllByRecursion}
use Rattle.edition_code.specs.Values.{PartValue}
use Rattle.edition_code.specs.Laws.{IsPartWithin, parts_size}
use Rattle.edition_code.proofs.encoding.parts_len.Goals as goal

pub part_len-sum-requires : goal.part_len-sum-requires
part_len-sum-requires c = (subst (λ (l : List PartValue). AllByRecursion IsPartWithin l) c.in-Some.ensures.some c.parts.invariant.within).0

pub parts-preserved : goal.parts-preserved
parts-preserved c = record {
  within = (subst (λ (l : List PartValue). AllByRecursion IsPartWithin l) c.in-Some.ensures.some c.parts.invariant.within).1;
  sum = omega (arith, c.part_len-sum.ensures.len, c.parts.invariant.sum, ap (λ (l : List PartValue). parts_size l) c.in-Some.ensures.some);
  most = omega (arith, c.part_len-sum.ensures.most, c.parts.invariant.most, ap (λ (l : List PartValue). length l) c.in-Some.ensures.some);
}

pub returns-clause-len : goal.returns-clause-len
returns-clause-len c = omega (arith, c.parts.invariant.sum, ap (λ (l : List PartValue). parts_size l) (c.split.ensures.none c.in_default.is))
