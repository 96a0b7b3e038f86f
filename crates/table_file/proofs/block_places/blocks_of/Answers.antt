use Rattle.std.proofs.Common.{◌≡◌, ◌++◌, ℕ, suc, ◌+◌, ◌-◌, ◌*◌, ap, ◌∙◌, arith}
use Rattle.block_code.specs.declared.format.TheConstants.{UNIT}
use Rattle.table_file.specs.BlockPlaces.{further_units, blocks_told}
use Rattle.table_file.proofs.BlockPlaceLemmas.{told_goes_on, told_stops, told_done}
use Rattle.table_file.proofs.block_places.blocks_of.Goals as goal

pub units-preserved : goal.units-preserved
units-preserved c =
    let step : c.args.units - c.units.unit ≡ suc (c.args.units - (c.units.unit + 1)) = omega (arith, c.units-test.true) in
    let next : UNIT * (c.units.unit + 1) ≡ UNIT * c.units.unit + UNIT = omega arith in
    let left : c.args.units - c.units.unit - 1 ≡ c.args.units - (c.units.unit + 1) = omega arith in
    record {
      so_far = told_goes_on c.units.found.items _ _ _ (UNIT * c.units.unit) _ c.units.rest.now _ _ (c.units.invariant.so_far ∙ ap (λ (n : ℕ). c.units.found.items ++ blocks_told n (UNIT * c.units.unit) c.units.rest.now) step) c.in-Ok.ensures next
          (ap (λ (n : ℕ). record { place = UNIT * c.units.unit; count = c.in-Ok.count; len = UNIT * (1 + further_units n c.in-Ok.more.now) }) left) c.in_ok-add_block-in-Ok.ensures;
    }

pub returns-in-Err : goal.returns-in-Err
returns-in-Err c =
    let step : c.args.units - c.units.unit ≡ suc (c.args.units - (c.units.unit + 1)) = omega (arith, c.units-test.true) in
    told_stops c.units.found.items _ _ (UNIT * c.units.unit) c.units.rest.now _ (c.units.invariant.so_far ∙ ap (λ (n : ℕ). c.units.found.items ++ blocks_told n (UNIT * c.units.unit) c.units.rest.now) step) c.in-Err.ensures

pub returns : goal.returns
returns c =
    let none : c.args.units - c.units.unit ≡ 0 = omega (arith, c.units-test.false) in
    told_done c.units.found.items _ (UNIT * c.units.unit) c.units.rest.now (c.units.invariant.so_far ∙ ap (λ (n : ℕ). c.units.found.items ++ blocks_told n (UNIT * c.units.unit) c.units.rest.now) none)
