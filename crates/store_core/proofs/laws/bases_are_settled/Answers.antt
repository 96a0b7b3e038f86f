use Rattle.store_core.proofs.SettledLemmas.{run-covered}
use Rattle.store_core.proofs.laws.bases_are_settled.Goals as goal

pub returns : goal.returns
returns c = run-covered
