use Rattle.edition_code.proofs.AgainLemmas.{edition_again}
use Rattle.edition_code.proofs.TakenLemmas.{edition_taken, one_edition}
use Rattle.edition_code.proofs.laws.editions_read_back.Goals as goal

pub returns-clause-back : goal.returns-clause-back
returns-clause-back c = edition_again

pub returns-clause-spelled : goal.returns-clause-spelled
returns-clause-spelled c = edition_taken

pub returns-clause-one : goal.returns-clause-one
returns-clause-one c = one_edition
