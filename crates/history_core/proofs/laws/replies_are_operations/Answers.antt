use Rattle.history_core.proofs.OperationLemmas.{OperatesAll-grown, operations_from_replies, replies_from_operations}
use Rattle.history_core.proofs.laws.replies_are_operations.Goals as goal

pub returns-clause-operations : goal.returns-clause-operations
returns-clause-operations c = operations_from_replies

pub returns-clause-replies : goal.returns-clause-replies
returns-clause-replies c = replies_from_operations

pub returns-clause-growing : goal.returns-clause-growing
returns-clause-growing c = λ history more state next operations most h. OperatesAll-grown history more state next operations (λ le. most) h
