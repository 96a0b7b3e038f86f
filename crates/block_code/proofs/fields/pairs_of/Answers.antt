use Rattle.std.proofs.Common.{◌≡◌, ℕ, suc, ◌+◌, ◌-◌, Ok, refl, sym, ap, ◌∙◌, arith}
use Rattle.block_code.specs.Reading.{pairs_at, ends_of}
use Rattle.block_code.proofs.StepLemmas.{more_of, more_of-none, pairs-next, pairs-stop, pairs-end, pairs_go_on, pairs_stop_here}
use Rattle.block_code.proofs.fields.pairs_of.Goals as goal

pub pairs-init : goal.pairs-init
pairs-init c =
    let all : c.args.count ≡ c.args.count - 0 = omega arith in
    record {
      so_far = sym (more_of-none (ends_of c.args.last.now (pairs_at c.args.limits c.args.count c.args.last.now c.args.bytes.now)))
          ∙ ap (λ (n : ℕ). more_of 0 (ends_of c.args.last.now (pairs_at c.args.limits n c.args.last.now c.args.bytes.now))) all;
      near = omega arith;
    }

pub pairs-preserved : goal.pairs-preserved
pairs-preserved c =
    let step : c.args.count - c.pairs.done ≡ suc (c.args.count - (c.pairs.done + 1)) = omega (arith, c.pairs-test.true) in
    record {
      so_far = pairs_go_on c.pairs.done (c.pairs.done + 1) _ _ _ refl
          (c.pairs.invariant.so_far ∙ ap (λ (n : ℕ). more_of c.pairs.done (ends_of c.pairs.key.now (pairs_at c.args.limits n c.pairs.key.now c.pairs.rest.now))) step)
          (pairs-next c.args.limits _ c.pairs.key.now c.pairs.rest.now _ c.in-Ok.ensures);
      near = omega (arith, c.pairs-test.true);
    }

pub returns-in-Err : goal.returns-in-Err
returns-in-Err c =
    let step : c.args.count - c.pairs.done ≡ suc (c.args.count - (c.pairs.done + 1)) = omega (arith, c.pairs-test.true) in
    pairs_stop_here c.pairs.done _ _ _
    (c.pairs.invariant.so_far ∙ ap (λ (n : ℕ). more_of c.pairs.done (ends_of c.pairs.key.now (pairs_at c.args.limits n c.pairs.key.now c.pairs.rest.now))) step)
    (pairs-stop c.args.limits _ c.pairs.key.now c.pairs.rest.now _ c.in-Err.ensures)

pub returns : goal.returns
returns c =
    let none : c.args.count - c.pairs.done ≡ 0 = omega (arith, c.pairs-test.false) in
    let all : c.pairs.done + 0 ≡ c.args.count = omega (arith, c.pairs-test.false, c.pairs.invariant.near) in
    c.pairs.invariant.so_far ∙ ap (λ (n : ℕ). more_of c.pairs.done (ends_of c.pairs.key.now (pairs_at c.args.limits n c.pairs.key.now c.pairs.rest.now))) none
    ∙ ap (more_of c.pairs.done) (pairs-end c.args.limits c.pairs.key.now c.pairs.rest.now)
    ∙ ap (λ (k : ℕ). Ok ((k, c.pairs.key.now), c.pairs.rest.now)) all
