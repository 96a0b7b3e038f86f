use Rattle.front_rule.proofs.LearnLemmas.{Goes-learn}
use Rattle.front_rule.proofs.kinds.LearningKind.goes.Goals as goal

pub returns : goal.returns
returns c = Goes-learn
