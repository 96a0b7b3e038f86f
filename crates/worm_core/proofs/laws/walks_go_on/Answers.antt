use Rattle.worm_core.proofs.PromiseLemmas.{walks-go_on}
use Rattle.worm_core.proofs.laws.walks_go_on.Goals as goal

pub returns : goal.returns
returns c = walks-go_on
