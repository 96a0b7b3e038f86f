use Rattle.std.proofs.Common.{◌≡◌, List, map, sym, ap, subst, ◌∙◌, arith, false}
use Rattle.remix_view.specs.declared.spot.Spot.{Spot}
use Rattle.remix_view.specs.Spots.{spots_from}
use Rattle.remix_seek.specs.Indexes.{Indexes}
use Rattle.remix_seek.specs.Places.{IsFirstPlace, SeekCost}
use Rattle.partition_set.specs.Partitions.{PartState}
use Rattle.partition_set.proofs.SetLemmas.{part-at}
use Rattle.overlay_view.specs.Older.{pair_of}
use Rattle.overlay_view.specs.Placements.{first_shows, shows_key}
use Rattle.overlay_view.proofs.ReadLemmas.{there-some}
use Rattle.overlay_view.proofs.ShownLemmas.{spot_known}
use Rattle.overlay_view.proofs.PlacedLemmas.{placed-in_part, key-cost}
use Rattle.overlay_view.proofs.placing.placement_of.Goals as goal

pub seek-requires : goal.seek-requires
seek-requires g c =
    let indexed = (part-at g.T.Runs.run c.args.parts.now c.of_key-number.result c.part-part.result.now c.of_key-number.ensures.set.each c.part-part.ensures).1.indexed in
    subst (λ rs. Indexes (map g.T.Runs.run rs) c.part.inside.remix.view c.part.inside.remix.anchors) (sym c.as_slice-runs.ensures.value)
    (subst (λ (p : PartState _). Indexes (map g.T.Runs.run p.runs) p.view p.anchors) (sym c.part.view_is) indexed)

pub is_shown-hides-requires : goal.is_shown-hides-requires
is_shown-hides-requires g c =
    let indexed = (part-at g.T.Runs.run c.args.parts.now c.of_key-number.result c.part-part.result.now c.of_key-number.ensures.set.each c.part-part.ensures).1.indexed in
    let index = subst (λ rs. Indexes (map g.T.Runs.run rs) c.part.inside.remix.view c.part.inside.remix.anchors) (sym c.as_slice-runs.ensures.value) (subst (λ (p : PartState _). Indexes (map g.T.Runs.run p.runs) p.view p.anchors) (sym c.part.view_is) indexed) in
    there-some (pair_of (map g.T.Runs.run c.as_slice-runs.result.now) c.in-Some.spot) _
    (spot_known (map g.T.Runs.run c.as_slice-runs.result.now) c.part.inside.remix.view c.part.inside.remix.anchors c.in_ok-segment.segment c.in_ok-segment.place c.in-Some.spot _ c.next.ensures.formed index c.in_ok-segment.ensures.place.stands
    ((λ i. spots_from c.part.inside.remix.view (sym c.at.ensures i).segment (sym c.at.ensures i).place) ∙ c.in-Some.ensures.next)).pair

pub returns-in-None-clause-placed : goal.returns-in-None-clause-placed
returns-in-None-clause-placed g c =
    let first = subst (λ (p : PartState _). IsFirstPlace (map g.T.Runs.run p.runs) p.view c.args.key.now c.in_ok-segment.segment c.in_ok-segment.place) c.part.view_is
    (subst (λ rs. IsFirstPlace (map g.T.Runs.run rs) c.part.inside.remix.view c.args.key.now c.in_ok-segment.segment c.in_ok-segment.place) c.as_slice-runs.ensures.value c.in_ok-segment.ensures.place) in
    placed-in_part g.T.Runs.run c.args.parts.now c.args.key.now c.of_key-number.result c.in_ok-segment.segment c.in_ok-segment.place false c.part-part.result.now c.of_key-number.ensures.part c.part-part.ensures first
    (subst (λ (p : PartState _). false ≡ first_shows (map g.T.Runs.run p.runs) (spots_from p.view c.in_ok-segment.segment c.in_ok-segment.place) c.args.key.now) c.part.view_is
    (ap (λ (ss : List Spot). first_shows (map g.T.Runs.run c.part.inside.runs.items) ss c.args.key.now) (sym ((λ i. spots_from c.part.inside.remix.view (sym c.at.ensures i).segment (sym c.at.ensures i).place) ∙ c.in-None.ensures.next.0))))

pub returns-in-None-clause-cost : goal.returns-in-None-clause-cost
returns-in-None-clause-cost g c =
    key-cost c.args.parts.now c.args.key.now c.of_key-number.result c.part-part.result.now c.args.steps.now c.seek.new.steps c.seek.new.steps c.of_key-number.ensures.part c.part-part.ensures
    (subst (λ (p : PartState _). SeekCost p.view c.args.steps.now c.seek.new.steps) c.part.view_is c.in_ok-segment.ensures.cost) (omega arith)

pub returns-in-Some-clause-placed : goal.returns-in-Some-clause-placed
returns-in-Some-clause-placed g c =
    let first = subst (λ (p : PartState _). IsFirstPlace (map g.T.Runs.run p.runs) p.view c.args.key.now c.in_ok-segment.segment c.in_ok-segment.place) c.part.view_is
    (subst (λ rs. IsFirstPlace (map g.T.Runs.run rs) c.part.inside.remix.view c.args.key.now c.in_ok-segment.segment c.in_ok-segment.place) c.as_slice-runs.ensures.value c.in_ok-segment.ensures.place) in
    placed-in_part g.T.Runs.run c.args.parts.now c.args.key.now c.of_key-number.result c.in_ok-segment.segment c.in_ok-segment.place c.is_shown-hides.result c.part-part.result.now c.of_key-number.ensures.part c.part-part.ensures first
    (subst (λ (p : PartState _). c.is_shown-hides.result ≡ first_shows (map g.T.Runs.run p.runs) (spots_from p.view c.in_ok-segment.segment c.in_ok-segment.place) c.args.key.now) c.part.view_is
    (c.is_shown-hides.ensures.shown
    ∙ ap (λ rs. shows_key (map g.T.Runs.run rs) c.in-Some.spot c.args.key.now) c.as_slice-runs.ensures.value
    ∙ ap (λ (ss : List Spot). first_shows (map g.T.Runs.run c.part.inside.runs.items) ss c.args.key.now) (sym ((λ i. spots_from c.part.inside.remix.view (sym c.at.ensures i).segment (sym c.at.ensures i).place) ∙ c.in-Some.ensures.next))))

pub returns-in-Some-clause-cost : goal.returns-in-Some-clause-cost
returns-in-Some-clause-cost g c =
    key-cost c.args.parts.now c.args.key.now c.of_key-number.result c.part-part.result.now c.args.steps.now c.seek.new.steps c.is_shown-hides.new.steps c.of_key-number.ensures.part c.part-part.ensures
    (subst (λ (p : PartState _). SeekCost p.view c.args.steps.now c.seek.new.steps) c.part.view_is c.in_ok-segment.ensures.cost) c.is_shown-hides.ensures.cost
