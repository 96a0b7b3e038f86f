use Rattle.front_rule.proofs.LearnLemmas.{Goes-look}
use Rattle.front_rule.proofs.kinds.LookingKind.goes.Goals as goal

pub returns : goal.returns
returns c = Goes-look
