use Rattle.rdb_base.proofs.RunLemmas.{IsRun-level_of}
use Rattle.rdb_base.proofs.ChangeLemmas.{change_at-level_of}
use Rattle.rdb_base.proofs.laws.level_of_runs.Goals as goal

pub returns-clause-run : goal.returns-clause-run
returns-clause-run c = IsRun-level_of

pub returns-clause-newest : goal.returns-clause-newest
returns-clause-newest c = change_at-level_of
