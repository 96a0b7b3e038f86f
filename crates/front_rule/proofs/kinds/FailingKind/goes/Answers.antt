use Rattle.front_rule.proofs.PenLemmas.{Goes-fail}
use Rattle.front_rule.proofs.kinds.FailingKind.goes.Goals as goal

pub returns : goal.returns
returns g c = Goes-fail g.E.TellsNumber.number
