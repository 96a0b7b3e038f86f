use Rattle.std.proofs.Common.{◌≡◌, ℕ, suc, ◌+◌, ◌-◌, ap, ◌∙◌, arith}
use Rattle.table_file.specs.BlockPlaces.{further_units}
use Rattle.table_file.proofs.BlockPlaceLemmas.{further_goes_on, further_stops, further_ends, further_done}
use Rattle.table_file.proofs.block_places.units_without.Goals as goal

pub units-init : goal.units-init
units-init c = let all : c.args.most ≡ c.args.most - 0 = omega arith in let none : further_units (c.args.most - 0) c.args.counts.now ≡ 0 + further_units (c.args.most - 0) c.args.counts.now = omega arith in record { so_far = ap (λ (n : ℕ). further_units n c.args.counts.now) all ∙ none }

pub units-preserved : goal.units-preserved
units-preserved c =
    let step : c.args.most - c.units.done ≡ suc (c.args.most - (c.units.done + 1)) = omega (arith, c.units-test.true) in
    record { so_far = further_goes_on _ c.units.done _ c.units.rest.now _ (c.units.invariant.so_far ∙ ap (λ (n : ℕ). c.units.done + further_units n c.units.rest.now) step) c.in-Ok.ensures c.if-count-ne0.false }

pub returns-then-count-ne0-clause-units : goal.returns-then-count-ne0-clause-units
returns-then-count-ne0-clause-units c =
    let step : c.args.most - c.units.done ≡ suc (c.args.most - (c.units.done + 1)) = omega (arith, c.units-test.true) in
    further_stops _ c.units.done _ c.units.rest.now _ (c.units.invariant.so_far ∙ ap (λ (n : ℕ). c.units.done + further_units n c.units.rest.now) step) c.in-Ok.ensures c.if-count-ne0.true

pub returns-in-Err-clause-units : goal.returns-in-Err-clause-units
returns-in-Err-clause-units c =
    let step : c.args.most - c.units.done ≡ suc (c.args.most - (c.units.done + 1)) = omega (arith, c.units-test.true) in
    further_ends _ c.units.done _ c.units.rest.now _ (c.units.invariant.so_far ∙ ap (λ (n : ℕ). c.units.done + further_units n c.units.rest.now) step) c.in-Err.ensures

pub returns-clause-units : goal.returns-clause-units
returns-clause-units c =
    let none : c.args.most - c.units.done ≡ 0 = omega (arith, c.units-test.false) in
    let all : c.args.most ≡ c.units.done = omega (arith, c.units.auto.done-end, c.units-test.false) in
    all ∙ further_done _ c.units.done c.units.rest.now (c.units.invariant.so_far ∙ ap (λ (n : ℕ). c.units.done + further_units n c.units.rest.now) none)
