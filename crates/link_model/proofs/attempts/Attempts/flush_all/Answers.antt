use Rattle.std.proofs.KnownBytes.{Keeps-trans}
use Rattle.link_model.proofs.AttemptLemmas.{interrupted-more}
use Rattle.link_model.proofs.attempts.Attempts.flush_all.Goals as goal

pub flushes-preserved : goal.flushes-preserved
flushes-preserved g c = (
  Keeps-trans _ _ _ c.flushes.invariant.0 c.flush.ensures.bytes,
  interrupted-more _ _ _ _ _ c.flushes.invariant.1 c.in-Err-Interrupted.field-0-is
      c.in-Err-Interrupted.ensures.counts,
)
