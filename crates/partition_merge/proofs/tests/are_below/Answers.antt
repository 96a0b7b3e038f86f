use Rattle.std.proofs.Common.{List, ℕ, sym, ap, ◌∙◌, arith}
use Rattle.std.specs.Ordering.{is_lt}
use Rattle.rdb_base.specs.Order.{key_cmp}
use Rattle.partition_merge.proofs.BelowLemmas.{below-next}
use Rattle.partition_merge.proofs.tests.are_below.Goals as goal

pub pairs-preserved : goal.pairs-preserved
pairs-preserved c =
    below-next c.args.key.now c.args.pairs.now c.pairs.at c.index-pairs-at.result (omega (arith, c.pairs-test.true)) c.index-pairs-at.is
    (ap (λ (k : List ℕ). is_lt (key_cmp k c.args.key.now)) (sym c.as_bytes.ensures.bytes) ∙ ap is_lt (sym c.compare_bytes.ensures) ∙ sym c.is_lt.ensures ∙ c.if-not-is_lt.false) c.pairs.invariant
