use Rattle.std.proofs.Common.{◌≡◌, ℕ, suc, ◌+◌, ◌-◌, ap, ◌∙◌, arith}
use Rattle.block_code.specs.Reading.{numbers_at}
use Rattle.block_code.proofs.StepLemmas.{numbers-next, numbers-stop, numbers-end}
use Rattle.block_code.proofs.fields.numbers_of.Goals as goal

pub numbers-preserved : goal.numbers-preserved
numbers-preserved c =
    let step : c.args.count - c.numbers.done ≡ suc (c.args.count - (c.numbers.done + 1)) = omega (arith, c.numbers-test.true) in
    record { so_far = c.numbers.invariant.so_far ∙ ap (λ (n : ℕ). numbers_at n c.numbers.rest.now) step ∙ numbers-next _ c.numbers.rest.now _ c.in-Ok.ensures }

pub returns-in-Err : goal.returns-in-Err
returns-in-Err c =
    let step : c.args.count - c.numbers.done ≡ suc (c.args.count - (c.numbers.done + 1)) = omega (arith, c.numbers-test.true) in
    c.numbers.invariant.so_far ∙ ap (λ (n : ℕ). numbers_at n c.numbers.rest.now) step ∙ numbers-stop _ c.numbers.rest.now _ c.in-Err.ensures

pub returns : goal.returns
returns c =
    let none : c.args.count - c.numbers.done ≡ 0 = omega (arith, c.numbers-test.false) in
    c.numbers.invariant.so_far ∙ ap (λ (n : ℕ). numbers_at n c.numbers.rest.now) none ∙ numbers-end c.numbers.rest.now
