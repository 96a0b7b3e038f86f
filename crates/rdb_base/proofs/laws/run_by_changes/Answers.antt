use Rattle.rdb_base.proofs.RunEqualityLemmas.{run_ext}
use Rattle.rdb_base.proofs.laws.run_by_changes.Goals as goal

pub returns : goal.returns
returns c = record { same = run_ext }
