use Rattle.worm_core.proofs.PromiseLemmas.{rights-go}
use Rattle.worm_core.proofs.laws.rights_go.Goals as goal

pub returns : goal.returns
returns c = rights-go
