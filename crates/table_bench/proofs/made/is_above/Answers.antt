use Rattle.std.proofs.Common.{◌-◌, List, length, sym, ap, subst, ◌∙◌, arith}
use Rattle.std.specs.Ordering.{is_lt}
use Rattle.rdb_base.specs.Order.{key_cmp}
use Rattle.rdb_base.specs.Runs.{IsRun, AreBelow}
use Rattle.rdb_base.specs.declared.pair.Pair.{Pair}
use Rattle.table_file.proofs.LastLemmas.{above_last, none_below}
use Rattle.table_bench.proofs.made.is_above.Goals as goal

pub returns-then-count-eq0 : goal.returns-then-count-eq0
returns-then-count-eq0 c answer =
    subst (λ (l : List Pair). AreBelow l c.args.key.now) c.as_slice-pairs.ensures.pairs (none_below c.as_slice-pairs.result.now c.args.key.now (omega (arith, c.if-count-eq0.true)))

pub returns : goal.returns
returns c answer =
    let rises = subst IsRun (sym c.as_slice-pairs.ensures.pairs) c.as_slice-pairs.ensures.rises in
    let less = sym (c.is_lt.ensures ∙ ap is_lt (c.compare_bytes.ensures ∙ (λ i. key_cmp (c.as_bytes.ensures.bytes i) c.args.key.now))) ∙ answer in
    subst (λ (l : List Pair). AreBelow l c.args.key.now) c.as_slice-pairs.ensures.pairs
    (above_last c.as_slice-pairs.result.now (length c.as_slice-pairs.result.now - 1) c.index-pairs-count.result c.args.key.now (omega (arith, c.if-count-eq0.false)) (omega arith) c.index-pairs-count.is rises less)
