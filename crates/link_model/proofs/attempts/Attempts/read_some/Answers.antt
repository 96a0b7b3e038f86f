use Rattle.std.proofs.Common.{rules}
use Rattle.std.proofs.KnownBytes.{Keeps-trans}
use Rattle.link_model.proofs.AttemptLemmas.{interrupted-more}
use Rattle.link_model.proofs.attempts.Attempts.read_some.Goals as goal

pub reads-preserved : goal.reads-preserved
reads-preserved g c = (
  search rules,
  Keeps-trans _ _ _ c.reads.invariant.1 c.in-Err-Interrupted.ensures.bytes,
  interrupted-more _ _ _ _ _ c.reads.invariant.2 c.in-Err-Interrupted.field-0-is c.in-Err-Interrupted.ensures.counts,
)
