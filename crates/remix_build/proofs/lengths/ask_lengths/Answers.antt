use Rattle.std.proofs.Common.{◌+◌, ◌<◌, ◌^◌, List, length, arith, refl}
use Rattle.rdb_base.specs.Runs.{IsRun}
use Rattle.rdb_base.specs.declared.pair.Pair.{Pair}
use Rattle.remix_build.proofs.StepLemmas.{all-next}
use Rattle.remix_build.proofs.lengths.ask_lengths.Goals as goal

pub runs-preserved : goal.runs-preserved
runs-preserved g c =
    all-next g.T.Runs.run (λ (run : List Pair). IsRun run × (length run < 2 ^ 32)) c.args.runs.now c.runs.run-index (c.runs.run-index + 1) c.run-item.result refl (omega (arith, c.runs-test.true)) c.run-item.is (c.len-pairs.ensures.rises, omega (arith, c.len-pairs.ensures.length)) c.runs.invariant
