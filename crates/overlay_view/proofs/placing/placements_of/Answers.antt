use Rattle.std.proofs.Common.{◌+◌, List, ℕ, refl, sym, subst, arith, take}
use Rattle.overlay_view.specs.Placements.{IsPlacedAt, ArePlaced, KeyCost}
use Rattle.overlay_view.proofs.PlacedLemmas.{placed-next, cost-next, cost-whole}
use Rattle.overlay_view.proofs.placing.placements_of.Goals as goal

pub returns-in_err-placement_of-clause-cost : goal.returns-in_err-placement_of-clause-cost
returns-in_err-placement_of-clause-cost g c =
    cost-whole c.args.parts.now c.args.rows.now (c.rows.row-index + 1) c.args.steps.now c.placement_of.new.steps
    (cost-next c.args.parts.now c.args.rows.now c.rows.row-index (c.rows.row-index + 1) c.row-item.result c.args.steps.now c.rows.steps c.placement_of.new.steps refl (omega (arith, c.rows-test.true)) c.row-item.is c.rows.invariant.1
    (subst (λ (k : List ℕ). KeyCost c.args.parts.now k c.rows.steps c.placement_of.new.steps) c.as_bytes.ensures.bytes c.in_err-placement_of.ensures.cost))

pub returns-in_err-push-clause-cost : goal.returns-in_err-push-clause-cost
returns-in_err-push-clause-cost g c =
    cost-whole c.args.parts.now c.args.rows.now (c.rows.row-index + 1) c.args.steps.now c.placement_of.new.steps
    (cost-next c.args.parts.now c.args.rows.now c.rows.row-index (c.rows.row-index + 1) c.row-item.result c.args.steps.now c.rows.steps c.placement_of.new.steps refl (omega (arith, c.rows-test.true)) c.row-item.is c.rows.invariant.1
    (subst (λ (k : List ℕ). KeyCost c.args.parts.now k c.rows.steps c.placement_of.new.steps) c.as_bytes.ensures.bytes c.in_ok-placement_of.ensures.cost))

pub rows-preserved : goal.rows-preserved
rows-preserved g c = (
  subst (ArePlaced g.T.Runs.run c.args.parts.now (take (c.rows.row-index + 1) c.args.rows.now)) (sym c.in_ok-push.ensures.items)
      (placed-next g.T.Runs.run c.args.parts.now c.args.rows.now c.rows.placements.items c.rows.row-index (c.rows.row-index + 1) c.row-item.result c.in_ok-placement_of.field-0 refl (omega (arith, c.rows-test.true)) c.row-item.is c.rows.invariant.0
      (subst (λ (k : List ℕ). IsPlacedAt g.T.Runs.run c.args.parts.now k c.in_ok-placement_of.field-0) c.as_bytes.ensures.bytes c.in_ok-placement_of.ensures.placed)),
  cost-next c.args.parts.now c.args.rows.now c.rows.row-index (c.rows.row-index + 1) c.row-item.result c.args.steps.now c.rows.steps c.placement_of.new.steps refl (omega (arith, c.rows-test.true)) c.row-item.is c.rows.invariant.1
      (subst (λ (k : List ℕ). KeyCost c.args.parts.now k c.rows.steps c.placement_of.new.steps) c.as_bytes.ensures.bytes c.in_ok-placement_of.ensures.cost),
)
