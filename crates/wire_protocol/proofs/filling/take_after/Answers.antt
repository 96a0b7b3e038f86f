use Rattle.std.proofs.Common.{arith}
use Rattle.wire_protocol.proofs.FeedingLemmas.{filled_by}
use Rattle.wire_protocol.proofs.filling.take_after.Goals as goal

pub returns-clause-filled : goal.returns-clause-filled
returns-clause-filled g c = filled_by c.args.memory.now c.take.new.into (g.R.Source.left c.args.source.now) (g.R.Source.left c.take.new.self) c.args.front c.args.end c.take.result c.requires.some c.requires.within (omega arith) c.take.ensures.bytes
