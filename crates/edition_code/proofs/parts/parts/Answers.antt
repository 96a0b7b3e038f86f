use Rattle.std.proofs.Common.{◌≡◌, ℕ, suc, ◌+◌, ◌-◌, eqb, ap, ◌∙◌, arith}
use Rattle.edition_code.specs.Reading.{part_at, parts_at}
use Rattle.edition_code.proofs.ReadLemmas.{after, parts-next, parts-stop, parts-end, fails-so, memory-so, part_head-read, first_head, not_first}
use Rattle.edition_code.proofs.parts.parts.Goals as goal

pub parts-preserved : goal.parts-preserved
parts-preserved c =
    let step : c.args.count - c.parts.done ≡ suc (c.args.count - (c.parts.done + 1)) = omega (arith, c.parts-test.true) in
    record {
      so_far = rw (c.in-Ok-add_part.ensures, c.in-Ok.ensures.seen, c.in-Ok.ensures.low, not_first c.parts.done) (c.parts.invariant.so_far
          ∙ ap (λ (n : ℕ). after c.parts.parts.items (parts_at n c.args.next (eqb c.parts.done 0) c.parts.last.now c.parts.seen c.parts.rest.now)) step
          ∙ parts-next c.parts.parts.items (c.args.count - (c.parts.done + 1)) c.args.next (eqb c.parts.done 0) c.parts.last.now c.parts.seen c.parts.rest.now c.in-Ok.one c.in-Ok.more.now c.in-Ok.ensures.exact);
      begins = λ none. absurd (omega (arith, none));
      first = λ some. first_head c.parts.done c.parts.last.now c.parts.rest.now c.args.bytes.now c.parts.invariant.begins c.parts.invariant.first
          (part_head-read c.args.next (eqb c.parts.done 0) c.parts.last.now c.parts.seen c.parts.rest.now (c.in-Ok.one, c.in-Ok.more.now) c.in-Ok.ensures.exact);
    }

pub returns-in-Err-clause-exact : goal.returns-in-Err-clause-exact
returns-in-Err-clause-exact c =
    let step : c.args.count - c.parts.done ≡ suc (c.args.count - (c.parts.done + 1)) = omega (arith, c.parts-test.true) in
    fails-so c.in-Err.error (part_at c.args.next (eqb c.parts.done 0) c.parts.last.now c.parts.seen c.parts.rest.now) _
    (λ left e. c.parts.invariant.so_far
    ∙ ap (λ (n : ℕ). after c.parts.parts.items (parts_at n c.args.next (eqb c.parts.done 0) c.parts.last.now c.parts.seen c.parts.rest.now)) step
    ∙ parts-stop c.parts.parts.items (c.args.count - (c.parts.done + 1)) c.args.next (eqb c.parts.done 0) c.parts.last.now c.parts.seen c.parts.rest.now left e)
    c.in-Err.ensures.exact

pub returns-in-Err-clause-memory : goal.returns-in-Err-clause-memory
returns-in-Err-clause-memory c =
    memory-so c.in-Err.error _ _ (first_head c.parts.done c.parts.last.now c.parts.rest.now c.args.bytes.now c.parts.invariant.begins c.parts.invariant.first) c.in-Err.ensures.memory

pub returns-clause-exact : goal.returns-clause-exact
returns-clause-exact c =
    let none : c.args.count - c.parts.done ≡ 0 = omega (arith, c.parts-test.false) in
    c.parts.invariant.so_far ∙ ap (λ (n : ℕ). after c.parts.parts.items (parts_at n c.args.next (eqb c.parts.done 0) c.parts.last.now c.parts.seen c.parts.rest.now)) none
    ∙ parts-end c.parts.parts.items c.args.next (eqb c.parts.done 0) c.parts.last.now c.parts.seen c.parts.rest.now

pub returns-in_default-clause-memory : goal.returns-in_default-clause-memory
returns-in_default-clause-memory c =
    first_head c.parts.done c.parts.last.now c.parts.rest.now c.args.bytes.now c.parts.invariant.begins c.parts.invariant.first
    (part_head-read c.args.next (eqb c.parts.done 0) c.parts.last.now c.parts.seen c.parts.rest.now (c.in-Ok.one, c.in-Ok.more.now) c.in-Ok.ensures.exact)
