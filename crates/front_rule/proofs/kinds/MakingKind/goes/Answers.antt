use Rattle.front_rule.proofs.PenLemmas.{Goes-make}
use Rattle.front_rule.proofs.kinds.MakingKind.goes.Goals as goal

pub returns : goal.returns
returns c = Goes-make
