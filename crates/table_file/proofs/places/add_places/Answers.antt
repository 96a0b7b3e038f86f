use Rattle.std.proofs.Common.{◌≡◌, ◌++◌, ℕ, suc, ◌+◌, ◌-◌, ap, refl, ◌∙◌, arith}
use Rattle.table_file.specs.Held.{places_in}
use Rattle.table_file.proofs.PlaceLemmas.{places_go_on, places_stop, places_done}
use Rattle.table_file.proofs.places.add_places.Goals as goal

pub offsets-preserved : goal.offsets-preserved
offsets-preserved c =
    let step : c.args.count - c.offsets.done ≡ suc (c.args.count - (c.offsets.done + 1)) = omega (arith, c.offsets-test.true) in
    record { so_far = places_go_on c.offsets.places.items _ _ c.args.block _ _ c.offsets.rest.now _ (c.offsets.invariant.so_far ∙ ap (λ (n : ℕ). c.offsets.places.items ++ places_in c.args.block n c.offsets.rest.now) step) c.in-Ok.ensures refl c.in_ok-push-in-Ok.ensures.items }

pub returns-in-Err : goal.returns-in-Err
returns-in-Err c =
    let step : c.args.count - c.offsets.done ≡ suc (c.args.count - (c.offsets.done + 1)) = omega (arith, c.offsets-test.true) in
    places_stop c.offsets.places.items _ c.args.block _ c.offsets.rest.now _ (c.offsets.invariant.so_far ∙ ap (λ (n : ℕ). c.offsets.places.items ++ places_in c.args.block n c.offsets.rest.now) step) c.in-Err.ensures

pub returns : goal.returns
returns c =
    let none : c.args.count - c.offsets.done ≡ 0 = omega (arith, c.offsets-test.false) in
    places_done c.offsets.places.items _ c.args.block c.offsets.rest.now (c.offsets.invariant.so_far ∙ ap (λ (n : ℕ). c.offsets.places.items ++ places_in c.args.block n c.offsets.rest.now) none)
