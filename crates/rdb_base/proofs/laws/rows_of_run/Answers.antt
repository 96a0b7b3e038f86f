use Rattle.rdb_base.proofs.LiveLemmas.{IsRising-live, value_at-live, live-pairs_from}
use Rattle.rdb_base.proofs.laws.rows_of_run.Goals as goal

pub returns-clause-map : goal.returns-clause-map
returns-clause-map c = IsRising-live

pub returns-clause-changes : goal.returns-clause-changes
returns-clause-changes c = value_at-live

pub returns-clause-from : goal.returns-clause-from
returns-clause-from c = live-pairs_from
