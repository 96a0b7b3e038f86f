use Rattle.std.proofs.Common.{◌∙◌, ap, drop}
use Rattle.link_model.proofs.GivenLemmas.{given-passed}
use Rattle.link_model.proofs.outgoing.Outgoing.pass_on.Goals as goal

pub returns-in-Err-clause-bytes : goal.returns-in-Err-clause-bytes
returns-in-Err-clause-bytes g c =
    given-passed _ _ c.args.self.now.held.items c.split_at.result.1.now c.args.self.now.passed c.in-Err.count
    (c.split_at.ensures.back ∙ ap (drop c.args.self.now.passed) c.as_slice.ensures.value) c.in-Err.ensures.bytes.1
