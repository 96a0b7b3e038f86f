use Rattle.std.proofs.Common.{arith}
use Rattle.rdb_base.proofs.SizeLemmas.{sizes-take_next}
use Rattle.block_code.proofs.writing.sizes_of.Goals as goal

pub loop-pair-preserved : goal.loop-pair-preserved
loop-pair-preserved c =
    let next = sizes-take_next c.args.pairs.now c.loop-pair.pair-index c.pair-item.result (omega (arith, c.loop-pair-test.true)) c.pair-item.is in
    record {
      sum = omega (arith, next, c.loop-pair.invariant.sum, c.size.ensures.size);
      most = omega (arith, c.loop-pair.invariant.most, c.size.ensures.most);
    }
