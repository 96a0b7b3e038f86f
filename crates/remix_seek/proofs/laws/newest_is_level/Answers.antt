use Rattle.remix_seek.proofs.NewestLemmas.{newest_is_level as the_law}
use Rattle.remix_seek.proofs.laws.newest_is_level.Goals as goal

pub returns : goal.returns
returns c = the_law
