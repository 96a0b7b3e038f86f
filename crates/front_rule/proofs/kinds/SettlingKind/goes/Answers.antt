use Rattle.front_rule.proofs.PenLemmas.{Goes-settle}
use Rattle.front_rule.proofs.kinds.SettlingKind.goes.Goals as goal

pub returns : goal.returns
returns g c = Goes-settle g.E.TellsNumber.number
