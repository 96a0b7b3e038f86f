use Rattle.std.proofs.Common.{◌+◌, ◌-◌, ◌/◌, length, true, false, arith, ◌∙◌, sym}
use Rattle.rdb_base.specs.Searches.{is_below_at}
use Rattle.rdb_base.proofs.HalvingLemmas.{halved-true, halved-false, bound-half}
use Rattle.rdb_base.proofs.SearchLemmas.{below_at-falls, below_at-read}
use Rattle.rdb_base.proofs.run_search.place_of.Goals as goal

pub halves-preserved-then-is_lt : goal.halves-preserved-then-is_lt
halves-preserved-then-is_lt g c =
    let run = c.args.run.now in
    let key = c.args.key.now in
    let low = c.halves.low in
    let high = c.halves.high in
    let more = c.halves-test.true in
    let inside = c.halves.invariant.places.inside in
    let read = below_at-read run key (low + (high - low) / 2) c.index-run-middle.result c.as_bytes.result.now c.compare_bytes.result true (omega (arith, more, inside)) c.as_bytes.ensures.bytes c.compare_bytes.ensures (sym c.is_lt.ensures ∙ c.if-is_lt.true) in
    record {
      places = halved-true (is_below_at run key) (length run) low high (low + (high - low) / 2) (below_at-falls run key c.requires.rises) c.halves.invariant.places (omega (arith, more)) (omega arith) read;
      cost = bound-half (length run) c.args.steps.now c.halves.steps c.tick.new.self (high - low) (high - (low + (high - low) / 2 + 1)) (omega (arith, c.tick.ensures)) (omega arith) (omega (arith, more)) c.halves.invariant.cost;
      later = omega (arith, c.tick.ensures, c.halves.invariant.later);
      some = λ fewer. omega (arith, c.tick.ensures, c.halves.invariant.later);
    }

pub halves-preserved : goal.halves-preserved
halves-preserved g c =
    let run = c.args.run.now in
    let key = c.args.key.now in
    let low = c.halves.low in
    let high = c.halves.high in
    let more = c.halves-test.true in
    let inside = c.halves.invariant.places.inside in
    let read = below_at-read run key (low + (high - low) / 2) c.index-run-middle.result c.as_bytes.result.now c.compare_bytes.result false (omega (arith, more, inside)) c.as_bytes.ensures.bytes c.compare_bytes.ensures (sym c.is_lt.ensures ∙ c.if-is_lt.false) in
    record {
      places = halved-false (is_below_at run key) (length run) low high (low + (high - low) / 2) (below_at-falls run key c.requires.rises) c.halves.invariant.places (omega (arith, more)) (omega arith) read;
      cost = bound-half (length run) c.args.steps.now c.halves.steps c.tick.new.self (high - low) (low + (high - low) / 2 - low) (omega (arith, c.tick.ensures)) (omega arith) (omega (arith, more)) c.halves.invariant.cost;
      later = omega (arith, c.tick.ensures, c.halves.invariant.later);
      some = λ fewer. omega (arith, c.tick.ensures, c.halves.invariant.later);
    }
