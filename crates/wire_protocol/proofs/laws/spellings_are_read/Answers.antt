use Rattle.wire_protocol.proofs.MessageLemmas.{spelling_read}
use Rattle.wire_protocol.proofs.laws.spellings_are_read.Goals as goal

pub returns : goal.returns
returns c = spelling_read
