use Rattle.std.proofs.Common.{◌≡◌, arith, ℕ, subst, sym, ap, ◌∙◌}
use Rattle.remix_view.specs.Spots.{spots_from, IsAhead, SpotAt}
use Rattle.remix_view.proofs.WalkLemmas.{next_there}
use Rattle.remix_view.proofs.walk.Walk.next.Goals as goal

pub returns-then-segment-segments-clause-next : goal.returns-then-segment-segments-clause-next
returns-then-segment-segments-clause-next c =
    let segment : c.ahead-segment.result.0 ≡ c.ahead-segment.new.self.segment = ap (λ (r : ℕ × ℕ). r.0) c.ahead-segment.ensures.place in
    let place : c.ahead-segment.result.1 ≡ c.ahead-segment.new.self.place = ap (λ (r : ℕ × ℕ). r.1) c.ahead-segment.ensures.place in
    next_there c.args.view.now c.ahead-segment.new.self.segment c.ahead-segment.result.1 c.spot_there.result
    (spots_from c.args.view.now c.args.self.now.segment c.args.self.now.place) c.segments.ensures.formed
    (subst (λ (p : ℕ). IsAhead c.args.view.now c.ahead-segment.new.self.segment p) (sym place) c.ahead-segment.ensures.stands)
    (omega (arith, segment, c.if-segment-segments.true, c.segments.ensures.count))
    (λ has. subst (λ (s : ℕ). SpotAt c.args.view.now s c.ahead-segment.result.1 c.spot_there.result) segment c.spot_there.ensures)
    (ap (λ (p : ℕ). spots_from c.args.view.now c.ahead-segment.new.self.segment p) place ∙ c.ahead-segment.ensures.spots)
