-- What holds of operations.
use Rattle.std.specs.Prelude.{◌≤◌, List}
use Rattle.rdb_base.specs.declared.entry.Entry.{Entry}
use Rattle.rdb_base.specs.declared.limits.TheConstants.{NUMBER_MAX}
use Rattle.rdb_base.specs.Histories.{History, end}
use Rattle.history_core.specs.declared.request.Request.{Request}
use Rattle.history_core.specs.declared.reply.Reply.{Reply}
use Rattle.history_core.specs.Laws.{grown}
use Rattle.history_core.specs.Sessions.{SessionState, ReplaysAll}
use Rattle.history_core.specs.Operations.{Operation, AreOperations, OperatesAll}

-- the replies of a session are operations that it may have
abbrev pub RepliesAreOperations : Type 0
RepliesAreOperations =
    (history : History) (state next : SessionState) (requests : List Request) (replies : List Reply) →
    ReplaysAll history state requests replies next →
    (operations : List Operation) × AreOperations requests replies operations
    × OperatesAll history state operations next

-- operations that a session may have are its replies, where they are those of requests with replies
abbrev pub OperationsAreReplies : Type 0
OperationsAreReplies =
    (history : History) (state next : SessionState) (requests : List Request) (replies : List Reply) →
    (operations : List Operation) → AreOperations requests replies operations →
    OperatesAll history state operations next → ReplaysAll history state requests replies next

-- Operations over a history stand over each history that goes on from it. A history that has no number left does not
-- go on, so no history is to go on past its last number.
abbrev pub OperationsStandWhenHistoryGrows : Type 0
OperationsStandWhenHistoryGrows =
    (history : History) (more : List Entry) (state next : SessionState) (operations : List Operation) →
    end (grown history more) ≤ NUMBER_MAX → OperatesAll history state operations next →
    OperatesAll (grown history more) state operations next
