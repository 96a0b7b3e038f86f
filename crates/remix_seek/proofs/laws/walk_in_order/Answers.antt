use Rattle.remix_seek.proofs.WalkOrderLemmas.{walk_in_order as the_law}
use Rattle.remix_seek.proofs.laws.walk_in_order.Goals as goal

pub returns : goal.returns
returns c = the_law
