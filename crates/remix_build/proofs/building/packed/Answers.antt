use Rattle.std.proofs.Common.{ℕ, List, length, map, arith, sym, ap, subst, ◌∙◌}
use Rattle.std.specs.Prelude.{[], slice_index}
use Rattle.std.proofs.lemmas.List.{length-map, length-replicate}
use Rattle.remix_view.specs.declared.segment.Segment.{Segment}
use Rattle.remix_view.specs.Views.{ViewState}
use Rattle.remix_build.specs.Packing.{Packed}
use Rattle.remix_build.proofs.MergeLemmas.{zeros_at}
use Rattle.remix_build.proofs.BuildLemmas.{packed_begun}
use Rattle.remix_build.proofs.building.packed.Goals as goal

pub segments-init : goal.segments-init
segments-init g c =
    let runs = map g.T.Runs.run c.args.runs.now in
    let many = length-map c.args.runs.now g.T.Runs.run in
    let zeros = c.in_ok-packing.ensures.counts in
    let segments = ap (λ (v : ViewState). v.segments) c.in_ok-packing.ensures.view in
    let begun = packed_begun (map g.T.Runs.run c.args.runs.now) c.args.order.now c.in_ok-packing.packing.counts.items (omega (arith, many, c.requires.few)) c.requires.order
    (ap length zeros ∙ length-replicate (length c.args.runs.now) 0 ∙ sym many) (λ run low. ap (λ (xs : List ℕ). slice_index xs run) zeros ∙ zeros_at (length c.args.runs.now) run) in
    record {
      packed = subst (λ (n : ℕ). Packed (map g.T.Runs.run c.args.runs.now) c.args.order.now c.in_ok-packing.packing.index.view.segments c.in_ok-packing.packing.index.anchors c.in_ok-packing.packing.counts.items n) (sym c.in_ok-packing.ensures.at)
          (subst (λ (ks : List (List ℕ)). Packed (map g.T.Runs.run c.args.runs.now) c.args.order.now c.in_ok-packing.packing.index.view.segments ks c.in_ok-packing.packing.counts.items 0) (sym c.in_ok-packing.ensures.anchors)
          (subst (λ (gs : List Segment). Packed (map g.T.Runs.run c.args.runs.now) c.args.order.now gs [] c.in_ok-packing.packing.counts.items 0) (sym segments) begun));
      runs_told = ap (λ (v : ViewState). v.runs) c.in_ok-packing.ensures.view;
      cost = omega (arith, ap (λ (gs : List Segment). length gs) segments);
    }
