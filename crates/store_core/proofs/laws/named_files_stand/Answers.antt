use Rattle.store_core.proofs.ShelfLemmas.{run-shelved}
use Rattle.store_core.proofs.laws.named_files_stand.Goals as goal

pub returns : goal.returns
returns c = run-shelved
