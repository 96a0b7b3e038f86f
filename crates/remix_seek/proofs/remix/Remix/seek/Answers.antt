use Rattle.std.proofs.Common.{◌-◌, length, map, arith, ◌∙◌, sym}
use Rattle.remix_seek.proofs.SegmentLemmas.{length-anchors}
use Rattle.remix_seek.proofs.SearchLemmas.{anchors_fall, places_fall, first_below, readable, found_none, found_place, found_after}
use Rattle.remix_seek.proofs.ReadLemmas.{cost_of, held_there, not_held}
use Rattle.remix_seek.proofs.remix.Remix.seek.Goals as goal

pub anchors_below-below-requires-clause-all : goal.anchors_below-below-requires-clause-all
anchors_below-below-requires-clause-all g c = c.segments-segments.ensures.count ∙ sym (length-anchors (map g.T.Runs.run c.args.runs.now) c.requires.versions 0 c.args.self.now.view.segments c.args.self.now.anchors c.requires.anchored)

pub anchors_below-below-requires-clause-falls : goal.anchors_below-below-requires-clause-falls
anchors_below-below-requires-clause-falls g c = anchors_fall (map g.T.Runs.run c.args.runs.now) c.args.self.now.view c.args.self.now.anchors c.args.key.now c.segments-segments.ensures.formed c.requires

pub returns-then-below-eq0-clause-place : goal.returns-then-below-eq0-clause-place
returns-then-below-eq0-clause-place g c = found_none (map g.T.Runs.run c.args.runs.now) c.args.self.now.view c.args.self.now.anchors c.anchors_below-below.result c.args.key.now c.segments-segments.ensures.formed c.requires c.if-below-eq0.true c.anchors_below-below.ensures.place

pub returns-then-below-eq0-clause-cost : goal.returns-then-below-eq0-clause-cost
returns-then-below-eq0-clause-cost g c = cost_of c.args.self.now.view (length c.args.self.now.anchors) c.args.steps.now c.anchors_below-below.new.steps c.anchors_below-below.new.steps (length-anchors (map g.T.Runs.run c.args.runs.now) c.requires.versions 0 c.args.self.now.view.segments c.args.self.now.anchors c.requires.anchored) c.anchors_below-below.ensures.cost (omega arith)

pub first_in_segment-place-requires-clause-segment : goal.first_in_segment-place-requires-clause-segment
first_in_segment-place-requires-clause-segment g c = (omega (arith, c.anchors_below-below.ensures.place.inside, (length-anchors (map g.T.Runs.run c.args.runs.now) c.requires.versions 0 c.args.self.now.view.segments c.args.self.now.anchors c.requires.anchored), c.if-below-eq0.false))

pub first_in_segment-place-requires-clause-readable : goal.first_in_segment-place-requires-clause-readable
first_in_segment-place-requires-clause-readable g c = readable (map g.T.Runs.run c.args.runs.now) c.args.self.now.view c.args.self.now.anchors (c.anchors_below-below.result - 1) c.segments-segments.ensures.formed c.requires (omega (arith, c.anchors_below-below.ensures.place.inside, (length-anchors (map g.T.Runs.run c.args.runs.now) c.requires.versions 0 c.args.self.now.view.segments c.args.self.now.anchors c.requires.anchored), c.if-below-eq0.false))

pub first_in_segment-place-requires-clause-falls : goal.first_in_segment-place-requires-clause-falls
first_in_segment-place-requires-clause-falls g c = places_fall (map g.T.Runs.run c.args.runs.now) c.args.self.now.view c.args.self.now.anchors (c.anchors_below-below.result - 1) c.args.key.now c.segments-segments.ensures.formed c.requires (omega (arith, c.anchors_below-below.ensures.place.inside, (length-anchors (map g.T.Runs.run c.args.runs.now) c.requires.versions 0 c.args.self.now.view.segments c.args.self.now.anchors c.requires.anchored), c.if-below-eq0.false))

pub first_in_segment-place-requires-clause-first : goal.first_in_segment-place-requires-clause-first
first_in_segment-place-requires-clause-first g c = first_below (map g.T.Runs.run c.args.runs.now) c.args.self.now.view c.args.self.now.anchors (c.anchors_below-below.result - 1) c.args.key.now c.segments-segments.ensures.formed c.requires (omega (arith, c.anchors_below-below.ensures.place.inside, (length-anchors (map g.T.Runs.run c.args.runs.now) c.requires.versions 0 c.args.self.now.view.segments c.args.self.now.anchors c.requires.anchored), c.if-below-eq0.false)) (c.anchors_below-below.ensures.place.before (c.anchors_below-below.result - 1) (omega (arith, c.if-below-eq0.false)))

pub has_version-requires : goal.has_version-requires
has_version-requires g c = (omega (arith, c.anchors_below-below.ensures.place.inside, (length-anchors (map g.T.Runs.run c.args.runs.now) c.requires.versions 0 c.args.self.now.view.segments c.args.self.now.anchors c.requires.anchored), c.if-below-eq0.false))

pub returns-then-has_version-clause-place : goal.returns-then-has_version-clause-place
returns-then-has_version-clause-place g c =
    let held = held_there c.args.self.now.view (c.anchors_below-below.result - 1) c.first_in_segment-place.result c.has_version.result c.if-has_version.true c.has_version.ensures in
    found_place (map g.T.Runs.run c.args.runs.now) c.args.self.now.view c.args.self.now.anchors (c.anchors_below-below.result - 1) c.first_in_segment-place.result c.args.key.now c.segments-segments.ensures.formed c.requires (omega (arith, c.anchors_below-below.ensures.place.inside, (length-anchors (map g.T.Runs.run c.args.runs.now) c.requires.versions 0 c.args.self.now.view.segments c.args.self.now.anchors c.requires.anchored), c.if-below-eq0.false)) c.first_in_segment-place.ensures.some held.low held.named c.first_in_segment-place.ensures.place

pub returns-then-has_version-clause-cost : goal.returns-then-has_version-clause-cost
returns-then-has_version-clause-cost g c = cost_of c.args.self.now.view (length c.args.self.now.anchors) c.args.steps.now c.anchors_below-below.new.steps c.first_in_segment-place.new.steps (length-anchors (map g.T.Runs.run c.args.runs.now) c.requires.versions 0 c.args.self.now.view.segments c.args.self.now.anchors c.requires.anchored) c.anchors_below-below.ensures.cost c.first_in_segment-place.ensures.cost

pub returns-else-has_version-clause-place : goal.returns-else-has_version-clause-place
returns-else-has_version-clause-place g c =
    found_after (map g.T.Runs.run c.args.runs.now) c.args.self.now.view c.args.self.now.anchors (c.anchors_below-below.result - 1) c.anchors_below-below.result c.first_in_segment-place.result c.args.key.now c.segments-segments.ensures.formed c.requires (omega (arith, c.if-below-eq0.false)) c.anchors_below-below.ensures.place c.first_in_segment-place.ensures.some
    (not_held c.args.self.now.view (c.anchors_below-below.result - 1) c.first_in_segment-place.result c.has_version.result c.if-has_version.false c.has_version.ensures) c.first_in_segment-place.ensures.place

pub returns-else-has_version-clause-cost : goal.returns-else-has_version-clause-cost
returns-else-has_version-clause-cost g c = cost_of c.args.self.now.view (length c.args.self.now.anchors) c.args.steps.now c.anchors_below-below.new.steps c.first_in_segment-place.new.steps (length-anchors (map g.T.Runs.run c.args.runs.now) c.requires.versions 0 c.args.self.now.view.segments c.args.self.now.anchors c.requires.anchored) c.anchors_below-below.ensures.cost c.first_in_segment-place.ensures.cost

pub returns-then-below-eq0-clause-some : goal.returns-then-below-eq0-clause-some
returns-then-below-eq0-clause-some g c more = c.anchors_below-below.ensures.some (omega (arith, (length-anchors (map g.T.Runs.run c.args.runs.now) c.requires.versions 0 c.args.self.now.view.segments c.args.self.now.anchors c.requires.anchored), more))

pub returns-then-has_version-clause-some : goal.returns-then-has_version-clause-some
returns-then-has_version-clause-some g c more = omega (arith, c.anchors_below-below.ensures.some (omega (arith, (length-anchors (map g.T.Runs.run c.args.runs.now) c.requires.versions 0 c.args.self.now.view.segments c.args.self.now.anchors c.requires.anchored), more)), c.first_in_segment-place.ensures.later)

pub returns-else-has_version-clause-some : goal.returns-else-has_version-clause-some
returns-else-has_version-clause-some g c more = omega (arith, c.anchors_below-below.ensures.some (omega (arith, (length-anchors (map g.T.Runs.run c.args.runs.now) c.requires.versions 0 c.args.self.now.view.segments c.args.self.now.anchors c.requires.anchored), more)), c.first_in_segment-place.ensures.later)
