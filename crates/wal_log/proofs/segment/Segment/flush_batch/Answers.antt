use Rattle.wal_log.proofs.KeptLemmas.{calls-none, calls-same}
use Rattle.wal_log.proofs.segment.Segment.flush_batch.Goals as goal

pub returns-then-is_empty-clause-calls : goal.returns-then-is_empty-clause-calls
returns-then-is_empty-clause-calls g c = calls-none g.S.Strip 4 c.args.self.now (g.met.S.Strip.only_now c.args.self.now.journal.strip) c.tell_images.ensures.images

pub returns-in_err-stage_batch-clause-calls : goal.returns-in_err-stage_batch-clause-calls
returns-in_err-stage_batch-clause-calls g c = calls-same g.S.Strip 4 c.args.self.now c.stage_batch.new.self (g.met.S.Strip.only_now c.args.self.now.journal.strip) c.tell_images.ensures.images c.stage_batch.ensures.strip
