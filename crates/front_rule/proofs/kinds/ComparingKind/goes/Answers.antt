use Rattle.front_rule.proofs.LearnLemmas.{Goes-compare}
use Rattle.front_rule.proofs.kinds.ComparingKind.goes.Goals as goal

pub returns : goal.returns
returns c = Goes-compare
