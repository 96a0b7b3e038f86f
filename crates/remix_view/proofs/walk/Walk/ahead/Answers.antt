use Rattle.std.proofs.Common.{◌<◌, arith, sym, ◌∙◌, length, inr}
use Rattle.remix_view.proofs.WalkLemmas.{spots_from-passed, spots_from-passed_last, passed_there, not_passed}
use Rattle.remix_view.proofs.walk.Walk.ahead.Goals as goal

pub places-preserved-then-place-lt31 : goal.places-preserved-then-place-lt31
places-preserved-then-place-lt31 c = spots_from-passed c.args.view.now c.places.segment c.places.place c.segments-segments.ensures.formed c.if-place-lt31.true (sym c.is_passed.ensures ∙ c.places-test.true) ∙ c.places.invariant

pub overflow_add-segment : goal.overflow_add-segment
overflow_add-segment c =
    let inside : c.places.segment < length c.args.view.now.segments = passed_there c.args.view.now c.places.segment c.places.place (sym c.is_passed.ensures ∙ c.places-test.true) in
    omega (arith, c.segments-segments.ensures.formed.few)

pub places-smaller : goal.places-smaller
places-smaller c =
    let inside : c.places.segment < length c.args.view.now.segments = passed_there c.args.view.now c.places.segment c.places.place (sym c.is_passed.ensures ∙ c.places-test.true) in
    omega arith

pub places-preserved : goal.places-preserved
places-preserved c = spots_from-passed_last c.args.view.now c.places.segment c.places.place c.segments-segments.ensures.formed c.if-place-lt31.false (sym c.is_passed.ensures ∙ c.places-test.true) ∙ c.places.invariant

pub returns-then-segment-segments-clause-stands : goal.returns-then-segment-segments-clause-stands
returns-then-segment-segments-clause-stands c = inr (not_passed c.args.view.now c.places.segment c.places.place (omega (arith, c.segments-segments.ensures.count)) (sym c.is_passed.ensures ∙ c.places-test.false))
