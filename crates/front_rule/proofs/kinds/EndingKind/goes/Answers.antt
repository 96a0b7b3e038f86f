use Rattle.front_rule.proofs.PenLemmas.{Goes-end}
use Rattle.front_rule.proofs.kinds.EndingKind.goes.Goals as goal

pub returns : goal.returns
returns c = Goes-end
