use Rattle.front_rule.proofs.KeepLemmas.{Goes-take}
use Rattle.front_rule.proofs.kinds.TakingKind.goes.Goals as goal

pub returns : goal.returns
returns c = Goes-take
