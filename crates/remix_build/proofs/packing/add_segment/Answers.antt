use Rattle.std.proofs.Common.{◌≡◌, ◌+◌, ◌<◌, ◌^◌, ℕ, List, length, take, drop, map, arith, sym, ap, subst, ◌∙◌}
use Rattle.std.specs.Prelude.{slice_index, [], ◌∷◌, ◌++◌}
use Rattle.std.specs.List.{AllByRecursion}
use Rattle.std.proofs.lemmas.List.{length-map, length-append}
use Rattle.remix_view.specs.declared.segment.Segment.{Segment}
use Rattle.remix_view.specs.Selectors.{IsSelector, rank_in, run_in}
use Rattle.remix_view.specs.Views.{segment_with}
use Rattle.remix_seek.specs.Reads.{KeyAt}
use Rattle.remix_seek.specs.Versions.{run_at}
use Rattle.remix_build.specs.Packing.{GroupCut, CountedOn}
use Rattle.remix_build.proofs.NextLemmas.{next_read, next_named, next_room, next_reach, next_some, segment_added}
use Rattle.remix_build.proofs.packing.add_segment.Goals as goal

pub anchor_of-requires-clause-run : goal.anchor_of-requires-clause-run
anchor_of-requires-clause-run g c =
    let runs = map g.T.Runs.run c.args.runs.now in
    let many = length-map c.args.runs.now g.T.Runs.run in
    let read = next_read (map g.T.Runs.run c.args.runs.now) c.args.order.now c.args.packing.now.index.view.segments c.args.packing.now.index.anchors c.args.packing.now.counts.items c.args.packing.now.at (omega (arith, many, c.requires.few)) c.requires.packed c.requires.more in
    omega (arith, many, read.run)

pub anchor_of-requires-clause-place : goal.anchor_of-requires-clause-place
anchor_of-requires-clause-place g c =
    let many = length-map c.args.runs.now g.T.Runs.run in
    let read = next_read (map g.T.Runs.run c.args.runs.now) c.args.order.now c.args.packing.now.index.view.segments c.args.packing.now.index.anchors c.args.packing.now.counts.items c.args.packing.now.at (omega (arith, many, c.requires.few)) c.requires.packed c.requires.more in
    subst (λ (xs : List ℕ). slice_index xs (run_in (slice_index c.args.order.now c.args.packing.now.at)) < length (run_at (map g.T.Runs.run c.args.runs.now) (run_in (slice_index c.args.order.now c.args.packing.now.at)))) (sym c.as_slice.ensures) read.place

pub counted-requires-clause-room : goal.counted-requires-clause-room
counted-requires-clause-room g c run low =
    let many = length-map c.args.runs.now g.T.Runs.run in
    let front : c.split_at-2.result.0.now ≡ take c.cut-places.result (drop c.args.packing.now.at c.args.order.now) = c.split_at-2.ensures.front ∙ ap (take c.cut-places.result) c.split_at.ensures.back in
    subst (λ (xs : List ℕ). slice_index xs run + rank_in run c.split_at-2.result.0.now < 2 ^ 32) (sym c.as_slice-2.ensures)
    (next_room (map g.T.Runs.run c.args.runs.now) c.args.order.now c.split_at-2.result.0.now c.args.packing.now.index.view.segments c.args.packing.now.index.anchors c.args.packing.now.counts.items c.args.packing.now.at c.cut-places.result run (omega (arith, many, c.requires.few)) c.requires.runs c.requires.packed front
    (omega (arith, low, ap length c.as_slice-2.ensures, c.requires.packed.long)))

pub push-requires-clause-named : goal.push-requires-clause-named
push-requires-clause-named g c =
    let many = length-map c.args.runs.now g.T.Runs.run in
    let front : c.split_at-2.result.0.now ≡ take c.cut-places.result (drop c.args.packing.now.at c.args.order.now) = c.split_at-2.ensures.front ∙ ap (take c.cut-places.result) c.split_at.ensures.back in
    subst (λ (n : ℕ). AllByRecursion (IsSelector n) c.closed.result) (many ∙ sym c.requires.view)
    (next_named (map g.T.Runs.run c.args.runs.now) c.args.order.now c.split_at-2.result.0.now c.closed.result c.args.packing.now.at c.cut-places.result _ (omega (arith, many, c.requires.few)) c.requires.packed.order_is front c.closed.ensures)

pub push-requires-clause-reach : goal.push-requires-clause-reach
push-requires-clause-reach g c run low =
    let many = length-map c.args.runs.now g.T.Runs.run in
    let front : c.split_at-2.result.0.now ≡ take c.cut-places.result (drop c.args.packing.now.at c.args.order.now) = c.split_at-2.ensures.front ∙ ap (take c.cut-places.result) c.split_at.ensures.back in
    subst (λ (xs : List ℕ). slice_index xs run + rank_in run c.closed.result < 2 ^ 32) (sym c.as_slice-3.ensures)
    (next_reach (map g.T.Runs.run c.args.runs.now) c.args.order.now c.split_at-2.result.0.now c.closed.result c.args.packing.now.index.view.segments c.args.packing.now.index.anchors c.args.packing.now.counts.items c.args.packing.now.at c.cut-places.result _ run (omega (arith, many, c.requires.few)) c.requires.runs c.requires.packed front c.closed.ensures
    (omega (arith, low, many, c.requires.view)))

pub returns-clause-packed : goal.returns-clause-packed
returns-clause-packed g c =
    let many = length-map c.args.runs.now g.T.Runs.run in
    let rest : c.split_at.result.1.now ≡ drop c.args.packing.now.at c.args.order.now = c.split_at.ensures.back in
    let front : c.split_at-2.result.0.now ≡ take c.cut-places.result (drop c.args.packing.now.at c.args.order.now) = c.split_at-2.ensures.front ∙ ap (take c.cut-places.result) c.split_at.ensures.back in
    segment_added (map g.T.Runs.run c.args.runs.now) c.args.order.now c.split_at-2.result.0.now c.closed.result c.args.packing.now.index.view.segments c.push.new.self.segments c.args.packing.now.index.anchors c.push-2.new.self c.args.packing.now.counts.items c.in_ok-later.later.items c.args.packing.now.at c.cut-places.result c.in_ok-anchor.anchor
    (omega (arith, many, c.requires.few)) c.requires.packed c.requires.more (subst (λ (xs : List ℕ). GroupCut xs c.cut-places.result) rest c.cut-places.ensures) front c.closed.ensures
    (c.in_ok-push.ensures.added ∙ ap (λ (xs : List ℕ). c.args.packing.now.index.view.segments ++ segment_with xs c.closed.result ∷ []) c.as_slice-3.ensures) c.in_ok-push-2.ensures.added
    (subst (λ (xs : List ℕ). KeyAt (run_at (map g.T.Runs.run c.args.runs.now) (run_in (slice_index c.args.order.now c.args.packing.now.at))) (slice_index xs (run_in (slice_index c.args.order.now c.args.packing.now.at))) c.in_ok-anchor.anchor) c.as_slice.ensures c.in_ok-anchor.ensures.key)
    (subst (λ (xs : List ℕ). CountedOn xs c.split_at-2.result.0.now c.in_ok-later.later.items) c.as_slice-2.ensures c.in_ok-later.ensures)

pub returns-clause-further : goal.returns-clause-further
returns-clause-further g c =
    let many = length-map c.args.runs.now g.T.Runs.run in
    let some = next_some (map g.T.Runs.run c.args.runs.now) c.args.order.now c.args.packing.now.index.view.segments c.args.packing.now.index.anchors c.args.packing.now.counts.items c.args.packing.now.at c.cut-places.result (omega (arith, many, c.requires.few)) c.requires.packed c.requires.more (subst (λ (xs : List ℕ). GroupCut xs c.cut-places.result) c.split_at.ensures.back c.cut-places.ensures) in
    omega arith

pub returns-clause-one : goal.returns-clause-one
returns-clause-one g c =
    ap (λ (gs : List Segment). length gs) c.in_ok-push.ensures.added
    ∙ length-append c.args.packing.now.index.view.segments (segment_with c.as_slice-3.result.now c.closed.result ∷ [])
