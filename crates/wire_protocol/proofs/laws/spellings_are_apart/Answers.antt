use Rattle.wire_protocol.proofs.MessageLemmas.{same_request}
use Rattle.wire_protocol.proofs.ReplyLemmas.{same_reply}
use Rattle.wire_protocol.proofs.laws.spellings_are_apart.Goals as goal

pub returns-clause-requests : goal.returns-clause-requests
returns-clause-requests c = same_request

pub returns-clause-replies : goal.returns-clause-replies
returns-clause-replies c = same_reply
