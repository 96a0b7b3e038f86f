use Rattle.std.proofs.Common.{◌-◌, sym, ap, ◌∙◌, arith}
use Rattle.std.specs.Ordering.{is_lt}
use Rattle.rdb_base.specs.Order.{key_cmp}
use Rattle.remix_seek.proofs.RisingLemmas.{rises-next, rises-broken}
use Rattle.remix_seek.proofs.run_in_memory.are_rising.Goals as goal

pub returns-then-not-is_lt-clause-no : goal.returns-then-not-is_lt-clause-no
returns-then-not-is_lt-clause-no c answer rises =
    rises-broken c.args.pairs.now c.pairs.at (c.pairs.at - 1) c.index-pairs-at.result c.index-pairs-at-in-pairs.result (omega (arith, c.pairs.invariant.1)) (omega (arith, c.pairs-test.true)) c.index-pairs-at.is c.index-pairs-at-in-pairs.is
    (sym (c.is_lt.ensures ∙ ap is_lt (c.compare_bytes.ensures ∙ (λ i. key_cmp (c.as_bytes.ensures.bytes i) (c.as_bytes-in-pairs.ensures.bytes i)))) ∙ c.if-not-is_lt.true)
    rises

pub pairs-preserved : goal.pairs-preserved
pairs-preserved c = (
  rises-next c.args.pairs.now c.pairs.at (c.pairs.at - 1) c.index-pairs-at.result c.index-pairs-at-in-pairs.result (omega (arith, c.pairs.invariant.1)) (omega (arith, c.pairs-test.true)) c.index-pairs-at.is c.index-pairs-at-in-pairs.is
      (sym (c.is_lt.ensures ∙ ap is_lt (c.compare_bytes.ensures ∙ (λ i. key_cmp (c.as_bytes.ensures.bytes i) (c.as_bytes-in-pairs.ensures.bytes i)))) ∙ c.if-not-is_lt.false)
      c.pairs.invariant.0,
  omega arith,
)
