use Rattle.front_rule.proofs.PenLemmas.{Goes-catch}
use Rattle.front_rule.proofs.kinds.CatchingKind.goes.Goals as goal

pub returns : goal.returns
returns c = Goes-catch
