use Rattle.std.proofs.Common.{◌+◌, ◌-◌, ◌/◌, ℕ, List, length, true, false, arith, ◌∙◌, sym, subst}
use Rattle.remix_seek.specs.Searches.{anchor_below, AnchorAt}
use Rattle.rdb_base.proofs.HalvingLemmas.{halved-true, halved-false, halved-turn, bound-half}
use Rattle.remix_seek.proofs.ReadLemmas.{anchor_tested}
use Rattle.remix_seek.proofs.search.anchors_below.Goals as goal

pub halves-preserved-then-is_lt : goal.halves-preserved-then-is_lt
halves-preserved-then-is_lt g c =
    let at : AnchorAt c.args.anchors.now (c.halves.low + (c.halves.high - c.halves.low) / 2) c.as_bytes.result.now = subst (λ (k : List ℕ). AnchorAt c.args.anchors.now (c.halves.low + (c.halves.high - c.halves.low) / 2) k) (sym c.as_bytes.ensures.bytes) c.at.ensures in
    let read = anchor_tested c.args.anchors.now (c.halves.low + (c.halves.high - c.halves.low) / 2) c.as_bytes.result.now c.args.key.now c.compare_bytes.result true at c.compare_bytes.ensures (sym c.is_lt.ensures ∙ c.if-is_lt.true) in
    record {
      places = halved-true (anchor_below c.args.anchors.now c.args.key.now) (length c.args.anchors.now) c.halves.low c.halves.high (c.halves.low + (c.halves.high - c.halves.low) / 2)
          c.requires.falls c.halves.invariant.places (omega (arith, c.halves-test.true)) (omega arith) read;
      cost = bound-half (length c.args.anchors.now) c.args.steps.now c.halves.steps c.tick.new.self (c.halves.high - c.halves.low) (c.halves.high - (c.halves.low + (c.halves.high - c.halves.low) / 2 + 1)) (omega (arith, c.tick.ensures)) (omega arith) (omega (arith, c.halves-test.true)) c.halves.invariant.cost;
      later = omega (arith, c.tick.ensures, c.halves.invariant.later);
      some = λ fewer. omega (arith, c.tick.ensures, c.halves.invariant.later);
    }

pub halves-preserved : goal.halves-preserved
halves-preserved g c =
    let at : AnchorAt c.args.anchors.now (c.halves.low + (c.halves.high - c.halves.low) / 2) c.as_bytes.result.now = subst (λ (k : List ℕ). AnchorAt c.args.anchors.now (c.halves.low + (c.halves.high - c.halves.low) / 2) k) (sym c.as_bytes.ensures.bytes) c.at.ensures in
    let read = anchor_tested c.args.anchors.now (c.halves.low + (c.halves.high - c.halves.low) / 2) c.as_bytes.result.now c.args.key.now c.compare_bytes.result false at c.compare_bytes.ensures (sym c.is_lt.ensures ∙ c.if-is_lt.false) in
    record {
      places = halved-false (anchor_below c.args.anchors.now c.args.key.now) (length c.args.anchors.now) c.halves.low c.halves.high (c.halves.low + (c.halves.high - c.halves.low) / 2)
          c.requires.falls c.halves.invariant.places (omega (arith, c.halves-test.true)) (omega arith) read;
      cost = bound-half (length c.args.anchors.now) c.args.steps.now c.halves.steps c.tick.new.self (c.halves.high - c.halves.low) (c.halves.low + (c.halves.high - c.halves.low) / 2 - c.halves.low) (omega (arith, c.tick.ensures)) (omega arith) (omega (arith, c.halves-test.true)) c.halves.invariant.cost;
      later = omega (arith, c.tick.ensures, c.halves.invariant.later);
      some = λ fewer. omega (arith, c.tick.ensures, c.halves.invariant.later);
    }

pub returns-clause-place : goal.returns-clause-place
returns-clause-place g c = halved-turn (anchor_below c.args.anchors.now c.args.key.now) (length c.args.anchors.now) c.halves.low c.halves.high c.halves.invariant.places (omega (arith, c.halves-test.false))
