use Rattle.std.proofs.Common.{ap, ◌∙◌}
use Rattle.edition_code.specs.Reading.{edition_of}
use Rattle.edition_code.proofs.AgainLemmas.{edition_again}
use Rattle.edition_code.proofs.encoding.encode_edition.Goals as goal

pub returns-clause-back : goal.returns-clause-back
returns-clause-back c = ap edition_of c.in_ok-payload.ensures.bytes ∙ edition_again c.args.edition.now c.in_ok-payload.ensures.held c.requires
