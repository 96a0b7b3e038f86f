use Rattle.std.proofs.Common.{◌+◌, ◌-◌, ◌/◌, map, arith, ◌∙◌, sym}
use Rattle.remix_seek.specs.Searches.{place_below}
use Rattle.rdb_base.proofs.HalvingLemmas.{halved-true, halved-false, halved-turn, bound-half, bound-end}
use Rattle.remix_seek.proofs.search.first_in_segment.Goals as goal

pub halves-preserved-then-is_below : goal.halves-preserved-then-is_below
halves-preserved-then-is_below g c = record {
  places = halved-true (place_below (map g.T.Runs.run c.args.runs.now) c.args.view.now c.args.segment c.args.key.now) 32 c.halves.low c.halves.high (c.halves.low + (c.halves.high - c.halves.low) / 2)
      c.requires.falls c.halves.invariant.places (omega (arith, c.halves-test.true)) (omega arith) (sym c.is_below.ensures.below ∙ c.if-is_below.true);
  cost = bound-half 31 c.args.steps.now c.halves.steps c.is_below.new.steps (c.halves.high - c.halves.low) (c.halves.high - (c.halves.low + (c.halves.high - c.halves.low) / 2 + 1)) c.is_below.ensures.cost (omega arith) (omega (arith, c.halves-test.true)) c.halves.invariant.cost;
  some = omega arith;
  later = omega (arith, c.is_below.ensures.later, c.halves.invariant.later);
}

pub halves-preserved : goal.halves-preserved
halves-preserved g c = record {
  places = halved-false (place_below (map g.T.Runs.run c.args.runs.now) c.args.view.now c.args.segment c.args.key.now) 32 c.halves.low c.halves.high (c.halves.low + (c.halves.high - c.halves.low) / 2)
      c.requires.falls c.halves.invariant.places (omega (arith, c.halves-test.true)) (omega arith) (sym c.is_below.ensures.below ∙ c.if-is_below.false);
  cost = bound-half 31 c.args.steps.now c.halves.steps c.is_below.new.steps (c.halves.high - c.halves.low) (c.halves.low + (c.halves.high - c.halves.low) / 2 - c.halves.low) c.is_below.ensures.cost (omega arith) (omega (arith, c.halves-test.true)) c.halves.invariant.cost;
  some = c.halves.invariant.some;
  later = omega (arith, c.is_below.ensures.later, c.halves.invariant.later);
}

pub returns-clause-place : goal.returns-clause-place
returns-clause-place g c = halved-turn (place_below (map g.T.Runs.run c.args.runs.now) c.args.view.now c.args.segment c.args.key.now) 32 c.halves.low c.halves.high c.halves.invariant.places (omega (arith, c.halves-test.false))

pub returns-clause-cost : goal.returns-clause-cost
returns-clause-cost g c = bound-end 31 c.args.steps.now c.halves.steps (c.halves.high - c.halves.low) c.halves.invariant.cost 5 (omega arith)
