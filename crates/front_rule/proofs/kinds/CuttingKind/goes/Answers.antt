use Rattle.front_rule.proofs.CutLemmas.{Goes-cut}
use Rattle.front_rule.proofs.kinds.CuttingKind.goes.Goals as goal

pub returns : goal.returns
returns g c = Goes-cut g.E.TellsKey.key
