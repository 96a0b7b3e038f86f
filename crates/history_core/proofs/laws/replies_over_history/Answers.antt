use Rattle.history_core.proofs.SessionLemmas.{ReplaysAll-grown, least-forward, names-forward}
use Rattle.history_core.proofs.laws.replies_over_history.Goals as goal

pub returns-clause-numbers : goal.returns-clause-numbers
returns-clause-numbers c = names-forward

pub returns-clause-forward : goal.returns-clause-forward
returns-clause-forward c = least-forward

pub returns-clause-growing : goal.returns-clause-growing
returns-clause-growing c = λ history more state next requests replies most r. ReplaysAll-grown history more state requests replies next (λ le. most) r
