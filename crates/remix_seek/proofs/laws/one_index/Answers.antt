use Rattle.remix_seek.proofs.OneIndexLemmas.{one_index as the_law}
use Rattle.remix_seek.proofs.laws.one_index.Goals as goal

pub returns : goal.returns
returns c = the_law
