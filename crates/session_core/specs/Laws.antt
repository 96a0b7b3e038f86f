-- What the replies of a session come to.
use Rattle.std.specs.Prelude.{◌≡◌, ℕ, ◌≤◌, ◌++◌, List, []}
use Rattle.std.specs.List.{AllByRecursion}
use Rattle.rdb_base.specs.declared.entry.Entry.{Entry}
use Rattle.fault_count.specs.Counts.{sum_of}
use Rattle.history_core.specs.declared.request.Request.{Request}
use Rattle.history_core.specs.declared.reply.Reply.{Reply}
use Rattle.history_core.specs.Sessions.{SessionState, ReplaysAll, IsSession}
use Rattle.history_core.specs.Passes.{PassState, Grows, front_of, map_of, added}
use Rattle.history_core.specs.PassLaws.{session_of, SyncedWithin, ArePlain}
use Rattle.session_core.specs.Answering.{PassAnswers, operations_of}
use Rattle.session_core.specs.Telling.{told_by_all}

-- These are the replies of one session of the pass over what it has seen at last. The session began with all that the
-- pass had seen then, and does not end past what it has seen.
pub record AreRepliesOf (old new : PassState) (asked : List Request) (answered : List Reply) : Type 0 where
  pub last : SessionState
  pub replays : ReplaysAll new.seen (session_of old (front_of old)) asked answered last
  pub caller : last.caller ≡ new.caller
  pub ordinal : last.ordinal ≡ new.ordinal
  pub least : last.least ≤ front_of new

-- what a pass answers to requests, one after the other, are the replies of one session
abbrev pub AnswersGiveSession : Type 0
AnswersGiveSession =
    (old new : PassState) (asked : List Request) (answered : List Reply) → PassAnswers old asked answered new →
    AreRepliesOf old new asked answered

-- of its caller's entries just those of its updates were added, once each and in order
abbrev pub AnswersAddUpdates : Type 0
AnswersAddUpdates =
    (old new : PassState) (asked : List Request) (answered : List Reply) → PassAnswers old asked answered new →
    Grows old new (added old.caller old.ordinal (operations_of asked answered))

-- no SYNCED named a number above that below which the pass then knows each entry to be synced
abbrev pub AnswersKnowSynced : Type 0
AnswersKnowSynced =
    (old new : PassState) (asked : List Request) (answered : List Reply) → PassAnswers old asked answered new →
    SyncedWithin new.safe (operations_of asked answered)

-- The number of failures that the pass was told rose by those of each device that replies tell, up to its last value. If
-- they tell none, it stands.
abbrev pub AnswersTellFailures : Type 0
AnswersTellFailures =
    (old new : PassState) (asked : List Request) (answered : List Reply) → PassAnswers old asked answered new →
    ((device : ℕ) → sum_of old.told (told_by_all device answered) ≤ new.told)
    × (((device : ℕ) → told_by_all device answered ≡ 0) → new.told ≡ old.told)

-- where each entry that came to be seen is the pass's own, the replies are those of a map that nobody else changes
abbrev pub AnswersAloneArePlain : Type 0
AnswersAloneArePlain =
    (old new : PassState) (asked : List Request) (answered : List Reply) (more : List Entry) →
    PassAnswers old asked answered new → new.seen.entries ≡ old.seen.entries ++ more →
    AllByRecursion (λ entry. entry.caller ≡ old.caller) more →
    ArePlain (map_of old) (front_of old) (operations_of asked answered)

-- a pass of the only caller that has made no update and seen no entry
pub record Begins (pass : PassState) : Type 0 where
  pub caller : pass.caller ≡ 0
  pub ordinal : pass.ordinal ≡ 0
  pub nothing : pass.seen.entries ≡ []

-- what such a pass answers, where nobody else adds an entry, is the only caller's session over its own updates
abbrev pub AnswersAloneAreSession : Type 0
AnswersAloneAreSession =
    (old new : PassState) (asked : List Request) (answered : List Reply) → PassAnswers old asked answered new →
    Begins old → AllByRecursion (λ entry. entry.caller ≡ 0) new.seen.entries →
    IsSession old.seen.base old.seen.first asked answered
