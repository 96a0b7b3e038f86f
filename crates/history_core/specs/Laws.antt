-- What holds of the session relation.
use Rattle.std.specs.Prelude.{ℕ, ◌+◌, ◌≤◌, ◌++◌, List, [], ◌∷◌, Option, Some, None, IfSome}
use Rattle.std.specs.List.{AllByRecursion}
use Rattle.rdb_base.specs.declared.entry.Entry.{Entry}
use Rattle.rdb_base.specs.declared.limits.TheConstants.{NUMBER_MAX}
use Rattle.rdb_base.specs.Histories.{History, end}
use Rattle.history_core.specs.declared.request.Request.{Request}
use Rattle.history_core.specs.declared.reply.Reply.{Reply}
use Rattle.history_core.specs.declared.reply.Reply.TheVariants.{Done, Value, Absent, Synced, Bye, BadMessage, DeviceFault, OutOfMemory, HistorySpent, NumbersSpent}
use Rattle.history_core.specs.Sessions.{SessionState, ReplaysAll}

-- the history with more entries at its end
abbrev pub grown : History → List Entry → History
grown history more = record { base = history.base; first = history.first; entries = history.entries ++ more }

-- the number that a reply names, of an entry, a front or a sync; a refusal names none
abbrev pub named_by : Reply → Option ℕ
named_by (Done number) = Some number
named_by (Value front value) = Some front
named_by (Absent front) = Some front
named_by (Synced number) = Some number
named_by Bye = None
named_by (BadMessage at code) = None
named_by (DeviceFault device) = None
named_by OutOfMemory = None
named_by (HistorySpent number) = None
named_by (NumbersSpent number) = None

-- The least number that a later reply may name: an entry's number is named once, and that of a front or a sync may be
-- named again.
abbrev pub least_after : Reply → ℕ
least_after (Done number) = number + 1
least_after (Value front value) = front
least_after (Absent front) = front
least_after (Synced number) = number
least_after Bye = 0
least_after (BadMessage at code) = 0
least_after (DeviceFault device) = 0
least_after OutOfMemory = 0
least_after (HistorySpent number) = 0
least_after (NumbersSpent number) = 0

-- none of these replies names a number below this one
abbrev pub NameFrom : ℕ → List Reply → Type 0
NameFrom least replies = AllByRecursion (λ reply. IfSome (named_by reply) (λ number. least ≤ number)) replies

-- no reply names a number below the one that an earlier reply named, nor that of an entry a second time
abbrev pub NeverFall : List Reply → Type 0
NeverFall [] = Unit {0}
NeverFall (reply ∷ replies) = NameFrom (least_after reply) replies × NeverFall replies

-- the numbers that a session's replies name begin at its least number and never fall
abbrev pub NumbersNeverFall : Type 0
NumbersNeverFall = (history : History) (state next : SessionState) (requests : List Request) (replies : List Reply) →
    ReplaysAll history state requests replies next → NameFrom state.least replies × NeverFall replies

-- a session's least number never falls
abbrev pub LeastNeverFalls : Type 0
LeastNeverFalls = (history : History) (state next : SessionState) (requests : List Request) (replies : List Reply) →
    ReplaysAll history state requests replies next → state.least ≤ next.least

-- Replies over a history are replies over each history that goes on from it. A history that has no number left does not
-- go on, so no history is to go on past its last number.
abbrev pub StandsWhenHistoryGrows : Type 0
StandsWhenHistoryGrows =
    (history : History) (more : List Entry) (state next : SessionState) (requests : List Request) (replies : List Reply) →
    end (grown history more) ≤ NUMBER_MAX → ReplaysAll history state requests replies next →
    ReplaysAll (grown history more) state requests replies next
