use Rattle.std.proofs.Common.{sym, ap, ◌∙◌, arith}
use Rattle.std.specs.Prelude.{Some}
use Rattle.rdb_base.specs.Ranges.{in_range}
use Rattle.partition_set.proofs.SeveralLemmas.{within-next}
use Rattle.partition_set.proofs.tests.several.are_within.Goals as goal

pub pairs-preserved : goal.pairs-preserved
pairs-preserved c =
    within-next c.args.low.now c.args.high.now c.args.pairs.now c.pairs.at c.index-pairs-at.result (omega (arith, c.pairs-test.true)) c.index-pairs-at.is
    (ap (in_range c.args.low.now (Some c.args.high.now)) (sym c.as_bytes.ensures.bytes) ∙ sym c.is_within.ensures ∙ c.if-not-is_within.false) c.pairs.invariant
