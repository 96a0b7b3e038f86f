use Rattle.front_rule.proofs.KeepLemmas.{Goes-keep}
use Rattle.front_rule.proofs.kinds.KeepingKind.goes.Goals as goal

pub returns : goal.returns
returns g c = Goes-keep g.E.TellsNumbers.numbers
