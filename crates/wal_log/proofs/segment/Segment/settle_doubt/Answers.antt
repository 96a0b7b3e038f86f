use Rattle.wal_log.proofs.KeptLemmas.{calls-none}
use Rattle.wal_log.proofs.segment.Segment.settle_doubt.Goals as goal

pub returns-then-not-has_staged-clause-calls : goal.returns-then-not-has_staged-clause-calls
returns-then-not-has_staged-clause-calls g c = calls-none g.S.Strip 4 c.args.self.now (g.met.S.Strip.only_now c.args.self.now.journal.strip) c.tell_images.ensures.images
