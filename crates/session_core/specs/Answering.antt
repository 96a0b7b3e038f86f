-- The operations of a pass that replies tell.
use Rattle.std.specs.Prelude.{List, [], ◌∷◌, Option, Some, None}
use Rattle.history_core.specs.declared.request.Request.{Request}
use Rattle.history_core.specs.declared.reply.Reply.{Reply}
use Rattle.history_core.specs.Operations.{Operation, operation_of, AreOperations}
use Rattle.history_core.specs.Passes.{PassState, PassMoves, PassMovesAll}

-- the operation moves a pass so; where a reply is of no operation, no pass moves by it
abbrev pub MovesBy : Option Operation → PassState → PassState → Type 0
MovesBy (Some operation) old new = PassMoves old operation new
MovesBy None old new = ⊥

-- these replies to these requests, one after the other, tell the operations that moved a pass
pub record PassAnswers (old : PassState) (asked : List Request) (answered : List Reply) (new : PassState) : Type 0 where
  pub operations : List Operation
  pub told : AreOperations asked answered operations
  pub moves : PassMovesAll old operations new

-- one operation more at the front, if there is one
abbrev pub with_operation : Option Operation → List Operation → List Operation
with_operation (Some operation) operations = operation ∷ operations
with_operation None operations = operations

-- the operations that these replies to these requests tell, in their order
abbrev pub operations_of : List Request → List Reply → List Operation
operations_of (request ∷ requests) (reply ∷ replies) =
    with_operation (operation_of request reply) (operations_of requests replies)
operations_of requests replies = []
