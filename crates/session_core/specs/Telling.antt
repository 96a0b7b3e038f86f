-- The failures of devices that replies tell, and where a store stands.
use Rattle.std.specs.Prelude.{◌≡◌, ℕ, ◌+◌, ◌≤◌, ◌==◌, List, [], ◌∷◌, Option, IfSome, if◌then◌else◌}
use Rattle.disk_model.specs.Books.{BookName}
use Rattle.disk_model.specs.Piles.{Units, number_at, book_at}
use Rattle.history_core.specs.declared.request.Request.{Request}
use Rattle.history_core.specs.declared.reply.Reply.{Reply}
use Rattle.history_core.specs.declared.reply.Reply.TheVariants.{Done, Value, Absent, Synced, Bye, BadMessage, DeviceFault, OutOfMemory, HistorySpent, NumbersSpent}
use Rattle.history_core.specs.Operations.{operation_of}
use Rattle.history_core.specs.Passes.{PassState}
use Rattle.session_core.specs.declared.answers.Answers.{Ghosts}
use Rattle.session_core.specs.Answering.{MovesBy}

-- how many failures of this device the reply tells
abbrev pub told_by : ℕ → Reply → ℕ
told_by device (DeviceFault failed) = if failed == device then 1 else 0
told_by device (Done number) = 0
told_by device (Value front value) = 0
told_by device (Absent front) = 0
told_by device (Synced number) = 0
told_by device Bye = 0
told_by device (BadMessage at code) = 0
told_by device OutOfMemory = 0
told_by device (HistorySpent number) = 0
told_by device (NumbersSpent number) = 0

-- how many the replies tell
abbrev pub told_by_all : ℕ → List Reply → ℕ
told_by_all device [] = 0
told_by_all device (reply ∷ replies) = told_by device reply + told_by_all device replies

-- these units are of the books of their devices
abbrev pub AreOf : (ℕ → BookName) → List (Option Units) → Type 0
AreOf books units = (device : ℕ) → IfSome (book_at units device) (λ book. book ≡ books device)

-- no device has more units than this
abbrev pub AreAtMost : ℕ → List (Option Units) → Type 0
AreAtMost most units = (device : ℕ) → number_at units device ≤ most

-- where a store stands in a session: what its pass knows, and the units that the session keeps
pub record StoreState : Type 0 where
  pub pass : PassState
  pub units : List (Option Units)

-- where a store stands at this pass, with these units
abbrev pub store_of : {A Pass : Type 0} → Ghosts A Pass → Pass → List (Option Units) → StoreState
store_of store pass units = record { pass = store.state pass; units = units }

-- the store answers the request so: the reply tells how the pass moved, and the unit of a failure that it tells was kept
pub record StoreAnswers (old new : StoreState) (request : Request) (reply : Reply) : Type 0 where
  pub answer : MovesBy (operation_of request reply) old.pass new.pass
  pub units : (device : ℕ) → number_at new.units device ≡ number_at old.units device + told_by device reply
