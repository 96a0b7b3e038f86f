use Rattle.link_model.proofs.GivenLemmas.{given_front, given-through, Gives-all, Appends-Keeps}
use Rattle.link_model.proofs.outgoing.Outgoing.write_through.Goals as goal

pub returns-in_default-clause-bytes : goal.returns-in_default-clause-bytes
returns-in_default-clause-bytes g c =
    let given = given_front c.write_front.result _ _ c.args.piece.now c.write_front.ensures.bytes in
    (given.0, given.1, given-through _ _ c.args.self.now.passed c.args.self.now.held.items _ c.requires given.2)

pub returns-clause-bytes : goal.returns-clause-bytes
returns-clause-bytes g c =
    Gives-all _ _ c.flush_all.result c.args.piece.now
    (given-through _ _ c.args.self.now.passed c.args.self.now.held.items _ c.requires
    (Appends-Keeps _ _ _ _ c.in-Ok.ensures.bytes c.flush_all.ensures.bytes))
