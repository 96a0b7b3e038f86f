use Rattle.std.proofs.Common.{◌≡◌, ◌++◌, ℕ, suc, ◌+◌, ◌-◌, ◌*◌, ap, ◌∙◌, arith}
use Rattle.block_code.specs.declared.format.TheConstants.{UNIT}
use Rattle.table_file.specs.Held.{places_of_units}
use Rattle.table_file.proofs.PlaceLemmas.{units_go_on, units_stop, units_done}
use Rattle.table_file.proofs.places.places_of.Goals as goal

pub units-preserved : goal.units-preserved
units-preserved c =
    let step : c.args.units - c.units.unit ≡ suc (c.args.units - (c.units.unit + 1)) = omega (arith, c.units-test.true) in
    let next : UNIT * (c.units.unit + 1) ≡ UNIT * c.units.unit + UNIT = omega arith in
    record { so_far = units_go_on c.units.places.items _ _ _ (UNIT * c.units.unit) _ c.units.left.now c.units.counts.now _ _ _ (c.units.invariant.so_far ∙ ap (λ (n : ℕ). c.units.places.items ++ places_of_units n (UNIT * c.units.unit) c.units.left.now c.units.counts.now) step) c.in-Ok.ensures c.after-offsets.ensures c.after-left.ensures next c.in_ok-add_places-in-Ok.ensures }

pub returns-in-Err : goal.returns-in-Err
returns-in-Err c =
    let step : c.args.units - c.units.unit ≡ suc (c.args.units - (c.units.unit + 1)) = omega (arith, c.units-test.true) in
    units_stop c.units.places.items _ _ (UNIT * c.units.unit) c.units.left.now c.units.counts.now _ (c.units.invariant.so_far ∙ ap (λ (n : ℕ). c.units.places.items ++ places_of_units n (UNIT * c.units.unit) c.units.left.now c.units.counts.now) step) c.in-Err.ensures

pub returns : goal.returns
returns c =
    let none : c.args.units - c.units.unit ≡ 0 = omega (arith, c.units-test.false) in
    units_done c.units.places.items _ (UNIT * c.units.unit) c.units.left.now c.units.counts.now (c.units.invariant.so_far ∙ ap (λ (n : ℕ). c.units.places.items ++ places_of_units n (UNIT * c.units.unit) c.units.left.now c.units.counts.now) none)
