use Rattle.std.proofs.Common.{◌≡◌, ◌<◌, length, map, arith, sym, ap, subst, ◌∙◌}
use Rattle.std.specs.Prelude.{Option, IfOk, OnErr}
use Rattle.rdb_base.specs.declared.change.Change.{Change}
use Rattle.std.proofs.lemmas.List.{length-map}
use Rattle.remix_view.specs.Spots.{spots_from}
use Rattle.rdb_base.specs.Runs.{change_at}
use Rattle.rdb_base.specs.Levels.{level_of}
use Rattle.remix_seek.specs.Places.{IsFirstPlace}
use Rattle.remix_seek.specs.Versions.{run_at}
use Rattle.remix_seek.specs.Indexes.{Indexes}
use Rattle.partition_set.specs.Partitions.{PartState}
use Rattle.partition_set.specs.Lookups.{change_in, HasValue, LookupCost}
use Rattle.partition_set.proofs.LookupLemmas.{met-none, met-spot, one_more}
use Rattle.partition_set.proofs.lookup.change_of.Goals as goal

pub returns-in-None-clause-change : goal.returns-in-None-clause-change
returns-in-None-clause-change g c =
    let indexed = subst (λ (p : PartState _). Indexes (map g.T.Runs.run p.runs) p.view p.anchors) (sym c.part.view_is) c.requires in
    let first = subst (λ rs. IsFirstPlace (map g.T.Runs.run rs) c.part.inside.remix.view c.args.key.now c.in_ok-segment.segment c.in_ok-segment.place) c.as_slice-runs.ensures.value c.in_ok-segment.ensures.place in
    sym (ap (λ (p : PartState _). change_at (level_of (map g.T.Runs.run p.runs)) c.args.key.now) (sym c.part.view_is)
    ∙ met-none (map g.T.Runs.run c.part.inside.runs.items) c.part.inside.remix.view c.part.inside.remix.anchors c.args.key.now c.in_ok-segment.segment c.in_ok-segment.place c.next.ensures.formed indexed first
    ((λ i. spots_from c.part.inside.remix.view (sym c.at.ensures i).segment (sym c.at.ensures i).place) ∙ c.in-None.ensures.next.0))

pub change_at_place-requires-clause-run : goal.change_at_place-requires-clause-run
change_at_place-requires-clause-run g c =
    let indexed = subst (λ (p : PartState _). Indexes (map g.T.Runs.run p.runs) p.view p.anchors) (sym c.part.view_is) c.requires in
    let first = subst (λ rs. IsFirstPlace (map g.T.Runs.run rs) c.part.inside.remix.view c.args.key.now c.in_ok-segment.segment c.in_ok-segment.place) c.as_slice-runs.ensures.value c.in_ok-segment.ensures.place in
    let met = met-spot (map g.T.Runs.run c.part.inside.runs.items) c.part.inside.remix.view c.part.inside.remix.anchors c.args.key.now c.in_ok-segment.segment c.in_ok-segment.place c.in-Some.spot _ c.next.ensures.formed indexed first
    ((λ i. spots_from c.part.inside.remix.view (sym c.at.ensures i).segment (sym c.at.ensures i).place) ∙ c.in-Some.ensures.next) in
    subst (λ rs. c.in-Some.spot.run < length rs) (sym c.as_slice-runs.ensures.value) (omega (arith, met.run, length-map c.part.inside.runs.items g.T.Runs.run))

pub change_at_place-requires-clause-place : goal.change_at_place-requires-clause-place
change_at_place-requires-clause-place g c =
    let indexed = subst (λ (p : PartState _). Indexes (map g.T.Runs.run p.runs) p.view p.anchors) (sym c.part.view_is) c.requires in
    let first = subst (λ rs. IsFirstPlace (map g.T.Runs.run rs) c.part.inside.remix.view c.args.key.now c.in_ok-segment.segment c.in_ok-segment.place) c.as_slice-runs.ensures.value c.in_ok-segment.ensures.place in
    let met = met-spot (map g.T.Runs.run c.part.inside.runs.items) c.part.inside.remix.view c.part.inside.remix.anchors c.args.key.now c.in_ok-segment.segment c.in_ok-segment.place c.in-Some.spot _ c.next.ensures.formed indexed first
    ((λ i. spots_from c.part.inside.remix.view (sym c.at.ensures i).segment (sym c.at.ensures i).place) ∙ c.in-Some.ensures.next) in
    subst (λ rs. c.in-Some.spot.place < length (run_at (map g.T.Runs.run rs) c.in-Some.spot.run)) (sym c.as_slice-runs.ensures.value) met.place

pub returns-in-Some-clause-change : goal.returns-in-Some-clause-change
returns-in-Some-clause-change g c =
    let indexed = subst (λ (p : PartState _). Indexes (map g.T.Runs.run p.runs) p.view p.anchors) (sym c.part.view_is) c.requires in
    let first = subst (λ rs. IsFirstPlace (map g.T.Runs.run rs) c.part.inside.remix.view c.args.key.now c.in_ok-segment.segment c.in_ok-segment.place) c.as_slice-runs.ensures.value c.in_ok-segment.ensures.place in
    let met = met-spot (map g.T.Runs.run c.part.inside.runs.items) c.part.inside.remix.view c.part.inside.remix.anchors c.args.key.now c.in_ok-segment.segment c.in_ok-segment.place c.in-Some.spot _ c.next.ensures.formed indexed first
    ((λ i. spots_from c.part.inside.remix.view (sym c.at.ensures i).segment (sym c.at.ensures i).place) ∙ c.in-Some.ensures.next) in
    subst (λ (o : Option Change). IfOk c.change_at_place.result (λ found. found ≡ o))
    (ap (λ rs. change_in (map g.T.Runs.run rs) c.in-Some.spot.run c.in-Some.spot.place c.args.key.now) c.as_slice-runs.ensures.value ∙ sym met.change ∙ ap (λ (p : PartState _). change_at (level_of (map g.T.Runs.run p.runs)) c.args.key.now) c.part.view_is)
    c.change_at_place.ensures.change

pub returns-in-Some-clause-memory : goal.returns-in-Some-clause-memory
returns-in-Some-clause-memory g c =
    let indexed = subst (λ (p : PartState _). Indexes (map g.T.Runs.run p.runs) p.view p.anchors) (sym c.part.view_is) c.requires in
    let first = subst (λ rs. IsFirstPlace (map g.T.Runs.run rs) c.part.inside.remix.view c.args.key.now c.in_ok-segment.segment c.in_ok-segment.place) c.as_slice-runs.ensures.value c.in_ok-segment.ensures.place in
    let met = met-spot (map g.T.Runs.run c.part.inside.runs.items) c.part.inside.remix.view c.part.inside.remix.anchors c.args.key.now c.in_ok-segment.segment c.in_ok-segment.place c.in-Some.spot _ c.next.ensures.formed indexed first
    ((λ i. spots_from c.part.inside.remix.view (sym c.at.ensures i).segment (sym c.at.ensures i).place) ∙ c.in-Some.ensures.next) in
    subst (λ (o : Option Change). OnErr c.change_at_place.result (HasValue o))
    (ap (λ rs. change_in (map g.T.Runs.run rs) c.in-Some.spot.run c.in-Some.spot.place c.args.key.now) c.as_slice-runs.ensures.value ∙ sym met.change ∙ ap (λ (p : PartState _). change_at (level_of (map g.T.Runs.run p.runs)) c.args.key.now) c.part.view_is)
    c.change_at_place.ensures.memory

pub returns-in-None-clause-cost : goal.returns-in-None-clause-cost
returns-in-None-clause-cost g c = subst (λ (p : PartState _). LookupCost p.view c.args.steps.now c.seek.new.steps) c.part.view_is (one_more c.part.inside.remix.view c.args.steps.now c.seek.new.steps c.seek.new.steps c.in_ok-segment.ensures.cost (omega arith))

pub returns-in-Some-clause-cost : goal.returns-in-Some-clause-cost
returns-in-Some-clause-cost g c = subst (λ (p : PartState _). LookupCost p.view c.args.steps.now c.change_at_place.new.steps) c.part.view_is (one_more c.part.inside.remix.view c.args.steps.now c.seek.new.steps c.change_at_place.new.steps c.in_ok-segment.ensures.cost (omega (arith, c.change_at_place.ensures.cost)))

pub returns-in-None-clause-some : goal.returns-in-None-clause-some
returns-in-None-clause-some g c more = c.in_ok-segment.ensures.some (omega (arith, ap (λ (p : PartState _). length p.view.segments) c.part.view_is, more))

pub returns-in-Some-clause-some : goal.returns-in-Some-clause-some
returns-in-Some-clause-some g c more = omega (arith, c.in_ok-segment.ensures.some (omega (arith, ap (λ (p : PartState _). length p.view.segments) c.part.view_is, more)), c.change_at_place.ensures.cost)
