use Rattle.rdb_base.proofs.LevelLemmas.{live-over_newest}
use Rattle.rdb_base.proofs.laws.rows_after_entries.Goals as goal

pub returns : goal.returns
returns c = record { rows = live-over_newest }
