use Rattle.std.proofs.Common.{◌≡◌, ℕ, suc, ◌+◌, ◌-◌, ap, ◌∙◌, arith}
use Rattle.block_code.specs.Reading.{zeros_at}
use Rattle.block_code.proofs.StepLemmas.{zeros-next, zeros-stop, zeros-end}
use Rattle.block_code.proofs.fields.zeros_of.Goals as goal

pub zeros-preserved : goal.zeros-preserved
zeros-preserved c =
    let step : c.args.count - c.zeros.done ≡ suc (c.args.count - (c.zeros.done + 1)) = omega (arith, c.zeros-test.true) in
    record { so_far = c.zeros.invariant.so_far ∙ ap (λ (n : ℕ). zeros_at n c.zeros.rest.now) step ∙ zeros-next _ c.zeros.rest.now _ c.in-Ok.ensures }

pub returns-in-Err : goal.returns-in-Err
returns-in-Err c =
    let step : c.args.count - c.zeros.done ≡ suc (c.args.count - (c.zeros.done + 1)) = omega (arith, c.zeros-test.true) in
    c.zeros.invariant.so_far ∙ ap (λ (n : ℕ). zeros_at n c.zeros.rest.now) step ∙ zeros-stop _ c.zeros.rest.now _ c.in-Err.ensures

pub returns : goal.returns
returns c =
    let none : c.args.count - c.zeros.done ≡ 0 = omega (arith, c.zeros-test.false) in
    c.zeros.invariant.so_far ∙ ap (λ (n : ℕ). zeros_at n c.zeros.rest.now) none ∙ zeros-end c.zeros.rest.now
