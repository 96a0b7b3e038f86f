use Rattle.rdb_base.proofs.MapLemmas.{IsRising-changed, value_at-changed_same, value_at-changed_other}
use Rattle.rdb_base.proofs.laws.map_after_entry.Goals as goal

pub returns-clause-rising : goal.returns-clause-rising
returns-clause-rising c = λ rows entry h. IsRising-changed rows entry.key entry.change h

pub returns-clause-here : goal.returns-clause-here
returns-clause-here c = λ rows entry. value_at-changed_same rows entry.key entry.change

pub returns-clause-others : goal.returns-clause-others
returns-clause-others c = λ rows entry key ne. value_at-changed_other rows key entry.key entry.change ne
