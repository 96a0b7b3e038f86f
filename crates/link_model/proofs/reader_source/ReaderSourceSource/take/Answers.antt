use Rattle.std.proofs.Common.{length}
use Rattle.link_model.proofs.GivenLemmas.{handed_out}
use Rattle.link_model.proofs.reader_source.ReaderSourceSource.take.Goals as goal

pub returns-clause-read : goal.returns-clause-read
returns-clause-read g c =
    let handed = handed_out _ _ c.read_ahead.new.self.ahead c.hand_out.new.into c.hand_out.new.self c.hand_out.result
    (length c.args.into.now) c.read_ahead.ensures.bytes c.hand_out.ensures.count c.hand_out.ensures.front
    c.hand_out.ensures.rest c.requires c.in-Ok.ensures.end in
    (handed.0, λ none some. handed.1 none)
