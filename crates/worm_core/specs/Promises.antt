-- What every world of leaves promises, whatever events led to it.
use Rattle.std.specs.Prelude.{◌≡◌, ℕ, ◌+◌, ◌<◌, ◌≤◌, true, false, List, [], ◌∷◌, length, Option, Some}
use Rattle.rdb_base.specs.Runs.{change_at}
use Rattle.rdb_base.specs.declared.change.Change.{Change}
use Rattle.rdb_base.specs.declared.pair.Pair.{Pair}
use Rattle.worm_leaf.specs.Leaves.{LeafState, covers}
use Rattle.worm_core.specs.Events.{StepsTo, RunsTo}
use Rattle.worm_core.specs.Worlds.{World, walker_at, Stands, IsRightOf, opening}
use Rattle.worm_core.specs.declared.leaf_answer.LeafAnswer.{LeafAnswer}
use Rattle.worm_core.specs.declared.leaf_answer.LeafAnswer.TheVariants as answers
use Rattle.worm_core.specs.declared.leaf_event.LeafEvent.{LeafEvent}
use Rattle.worm_core.specs.declared.leaf_event.LeafEvent.TheVariants as events
use Rattle.worm_core.specs.declared.limits.TheConstants.{LEAVES_MAX}
use Rattle.worm_core.specs.declared.walker.Walker.{Walker}

-- the pairs that were put, the newest first
abbrev pub put_by : List Pair → LeafEvent → List Pair
put_by puts (events.Put number pair) = pair ∷ puts
put_by puts (events.Split number) = puts
put_by puts (events.Publish adds) = puts
put_by puts (events.Enter number key) = puts
put_by puts (events.Right number) = puts
put_by puts (events.Answer number) = puts

abbrev pub puts_of : List Pair → List LeafEvent → List Pair
puts_of puts [] = puts
puts_of puts (e ∷ es) = puts_of (put_by puts e) es

-- an answer is right: it is of the walker's leaf, which covers the walker's key; the change is the last one put there; and
-- the walker went right no more often than there are splits that its table lacked
pub record IsRight (puts : List Pair) (w : World) (number leaf_number : ℕ) (change : Option Change) (rights : ℕ) : Type 0 where
  pub walker : Walker
  pub leaf : LeafState
  pub stands : Stands w.leaves w.walkers number walker leaf
  pub same_leaf : leaf_number ≡ walker.leaf
  pub inside : covers leaf walker.key ≡ true
  pub newest : change ≡ change_at puts walker.key
  pub few : rights + walker.adds ≤ length w.splits

-- over every list of events from the beginning, each answer is right
abbrev pub AnswersAreRight : Type 0
AnswersAreRight = (es : List LeafEvent) (more : List LeafAnswer) (w next : World) (number leaf rights : ℕ) (change : Option Change)
    → RunsTo opening es more w → StepsTo w (events.Answer number) (answers.Found leaf change rights) next
    → IsRight (puts_of [] es) w number leaf change rights

-- and where a walker's leaf does not cover its key, there is a leaf to its right: no walk is stuck
abbrev pub RightsGo : Type 0
RightsGo = (es : List LeafEvent) (more : List LeafAnswer) (w : World) (number : ℕ) (walker : Walker) (leaf : LeafState)
    → RunsTo opening es more w → Stands w.leaves w.walkers number walker leaf → covers leaf walker.key ≡ false
    → (right : ℕ) × IsRightOf w.leaves leaf right

-- the event has a step from here
abbrev pub HasStep : World → LeafEvent → Type 0
HasStep w event = (a : LeafAnswer) × (next : World) × StepsTo w event a next

-- a walker stands on a leaf that there is, and went right no more often than there are splits that its table lacked; where its
-- leaf covers its key it may answer, and elsewhere it may go right. So its walk goes on, and ends after fewer steps than there
-- may be leaves
pub record GoesOn (w : World) (number : ℕ) (walker : Walker) : Type 0 where
  pub leaf : LeafState
  pub stands : Stands w.leaves w.walkers number walker leaf
  pub few : walker.rights + walker.adds ≤ length w.splits
  pub ends : walker.rights < LEAVES_MAX
  pub answers : covers leaf walker.key ≡ true → HasStep w (events.Answer number)
  pub rights : covers leaf walker.key ≡ false → HasStep w (events.Right number)

-- over every list of events from the beginning, this is so of each walker that there is
abbrev pub WalksGoOn : Type 0
WalksGoOn = (es : List LeafEvent) (more : List LeafAnswer) (w : World) (number : ℕ) (walker : Walker)
    → RunsTo opening es more w → walker_at w.walkers number ≡ Some walker → GoesOn w number walker
