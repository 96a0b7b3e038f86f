use Rattle.std.proofs.Common.{List, subst, sym, ap, arith}
use Rattle.std.specs.List.{AllByRecursion}
use Rattle.edition_code.specs.Values.{PartValue}
use Rattle.edition_code.specs.Laws.{IsPartHeld, IsPartWithin, parts_size}
use Rattle.edition_code.proofs.WriteLemmas.{parts_go_on, parts_done}
use Rattle.edition_code.proofs.encoding.add_parts.Goals as goal

pub add_part-requires-clause-within : goal.add_part-requires-clause-within
add_part-requires-clause-within c = (subst (λ (l : List PartValue). AllByRecursion IsPartWithin l) c.in-Some.ensures.some c.parts.invariant.within).0

pub add_part-requires-clause-room : goal.add_part-requires-clause-room
add_part-requires-clause-room c = omega (arith, c.parts.invariant.len, c.parts.invariant.capacity, c.requires.room, ap (λ (l : List PartValue). parts_size l) c.in-Some.ensures.some)

pub parts-preserved : goal.parts-preserved
parts-preserved c = record {
  so_far = parts_go_on c.parts.out.items c.add_part.new.out.items c.in-Some.part.now c.parts.rest.now c.in-Some.more.now _ c.in-Some.ensures.some c.add_part.ensures.items c.parts.invariant.so_far;
  held = λ h. c.parts.invariant.held (subst (λ (l : List PartValue). AllByRecursion IsPartHeld l) (sym c.in-Some.ensures.some) (c.add_part.ensures.held, h));
  within = (subst (λ (l : List PartValue). AllByRecursion IsPartWithin l) c.in-Some.ensures.some c.parts.invariant.within).1;
  len = omega (arith, c.add_part.ensures.len, c.parts.invariant.len, ap (λ (l : List PartValue). parts_size l) c.in-Some.ensures.some);
  capacity = omega (arith, c.parts.invariant.capacity, c.add_part.ensures.capacity);
}

pub returns-clause-items : goal.returns-clause-items
returns-clause-items c = parts_done c.parts.out.items c.parts.rest.now _ (c.split.ensures.none c.in_default.is) c.parts.invariant.so_far

pub returns-clause-held : goal.returns-clause-held
returns-clause-held c = c.parts.invariant.held (subst (λ (l : List PartValue). AllByRecursion IsPartHeld l) (sym (c.split.ensures.none c.in_default.is)) tt)

pub returns-clause-len : goal.returns-clause-len
returns-clause-len c = omega (arith, c.parts.invariant.len, ap (λ (l : List PartValue). parts_size l) (c.split.ensures.none c.in_default.is))
