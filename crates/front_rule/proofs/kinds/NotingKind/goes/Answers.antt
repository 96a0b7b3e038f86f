use Rattle.front_rule.proofs.LearnLemmas.{Goes-note}
use Rattle.front_rule.proofs.kinds.NotingKind.goes.Goals as goal

pub returns : goal.returns
returns c = Goes-note
