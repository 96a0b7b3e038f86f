use Rattle.store_core.proofs.SegmentLemmas.{run-needed}
use Rattle.store_core.proofs.laws.no_earlier_segment_is_needed.Goals as goal

pub returns : goal.returns
returns c = run-needed
