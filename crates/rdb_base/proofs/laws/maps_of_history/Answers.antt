use Rattle.rdb_base.proofs.HistoryLemmas.{after-next}
use Rattle.rdb_base.proofs.laws.maps_of_history.Goals as goal

pub returns-clause-next : goal.returns-clause-next
returns-clause-next c = after-next
