use Rattle.std.proofs.Common.{◌≡◌, ℕ, suc, ◌+◌, ◌-◌, ap, ◌∙◌, arith}
use Rattle.table_file.specs.TableReading.{further_at}
use Rattle.table_file.proofs.StepLemmas.{further-next, further-stop, further-end}
use Rattle.table_file.proofs.fields.further_of.Goals as goal

pub units-preserved : goal.units-preserved
units-preserved c =
    let step : c.args.count - c.units.done ≡ suc (c.args.count - (c.units.done + 1)) = omega (arith, c.units-test.true) in
    record { so_far = c.units.invariant.so_far ∙ ap (λ (n : ℕ). further_at n c.units.rest.now) step ∙ further-next _ c.units.rest.now _ c.in-Ok.ensures }

pub returns-in-Err : goal.returns-in-Err
returns-in-Err c =
    let step : c.args.count - c.units.done ≡ suc (c.args.count - (c.units.done + 1)) = omega (arith, c.units-test.true) in
    c.units.invariant.so_far ∙ ap (λ (n : ℕ). further_at n c.units.rest.now) step ∙ further-stop _ c.units.rest.now _ c.in-Err.ensures

pub returns : goal.returns
returns c =
    let none : c.args.count - c.units.done ≡ 0 = omega (arith, c.units-test.false) in
    c.units.invariant.so_far ∙ ap (λ (n : ℕ). further_at n c.units.rest.now) none ∙ further-end c.units.rest.now
