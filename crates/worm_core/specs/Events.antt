-- The events of a world of leaves, one after the other: where each has a step, what changes, and what is answered.
use Rattle.std.specs.Prelude.{◌≡◌, ℕ, ◌+◌, ◌≤◌, ◌<◌, ◌⊎◌, true, false, is_some, List, [], ◌∷◌, ◌++◌, length, take, drop, slice_get, Option, Some, Result, Ok, Err}
use Rattle.std.specs.BTreeMap.{insert_entry}
use Rattle.std.specs.Ordering.{nat_cmp}
use lib.ListN.{set}
use Rattle.rdb_base.specs.Levels.{with_pair}
use Rattle.rdb_base.specs.Runs.{change_at}
use Rattle.rdb_base.specs.declared.change.Change.{Change}
use Rattle.rdb_base.specs.declared.pair.Pair.{Pair}
use Rattle.meta_trie.specs.Tries.{Anchored, cover}
use Rattle.worm_leaf.specs.Anchors.{PartsAt}
use Rattle.worm_leaf.specs.Leaves.{LeafState, covers}
use Rattle.worm_leaf.specs.declared.limits.TheConstants.{LEAF_PAIRS_MAX, LEAF_PAIRS_KEPT}
use Rattle.worm_core.specs.Worlds.{World, walker_at, Stands, IsRightOf, opening}
use Rattle.worm_core.specs.declared.leaf_answer.LeafAnswer.{LeafAnswer}
use Rattle.worm_core.specs.declared.leaf_answer.LeafAnswer.TheVariants as answers
use Rattle.worm_core.specs.declared.leaf_event.LeafEvent.{LeafEvent}
use Rattle.worm_core.specs.declared.leaf_event.LeafEvent.TheVariants as events
use Rattle.worm_core.specs.declared.limits.TheConstants.{LEAVES_MAX}
use Rattle.worm_core.specs.declared.walker.Walker.{Walker}

-- ---- put: the walker's leaf covers its key, the pair has that key, and the leaf has room or has the key

abbrev pub HasRoom : LeafState → List ℕ → Type 0
HasRoom leaf key = (length leaf.pairs < LEAF_PAIRS_MAX) ⊎ (is_some (change_at leaf.pairs key) ≡ true)

-- the leaf with the pair in its key's place
abbrev pub put_in : LeafState → Pair → LeafState
put_in leaf pair = record leaf { pairs = with_pair leaf.pairs pair }

pub record Puts (leaves : List LeafState) (walkers : List (ℕ × Walker)) (number : ℕ) (pair : Pair) (after : List LeafState) : Type 0 where
  pub walker : Walker
  pub leaf : LeafState
  pub stands : Stands leaves walkers number walker leaf
  pub inside : covers leaf walker.key ≡ true
  pub same_key : pair.key ≡ walker.key
  pub room : HasRoom leaf pair.key
  pub effect : after ≡ set leaves walker.leaf (put_in leaf pair)

-- ---- split: the leaf is full, and there are fewer leaves than there may be

-- the front of the pairs stays, and the leaf ends at the anchor
abbrev pub left_half : LeafState → List ℕ → LeafState
left_half leaf anchor = record { low = leaf.low; high = Some anchor; pairs = take LEAF_PAIRS_KEPT leaf.pairs }

-- the others go into a leaf that begins at the anchor
abbrev pub right_half : LeafState → List ℕ → LeafState
right_half leaf anchor = record { low = anchor; high = leaf.high; pairs = drop LEAF_PAIRS_KEPT leaf.pairs }

pub record SplitsLeaf (leaves : List LeafState) (splits : List Anchored) (number : ℕ) (after : List LeafState) (more : List Anchored) : Type 0 where
  pub leaf : LeafState
  pub at : slice_get leaves number ≡ Some leaf
  pub full : length leaf.pairs ≡ LEAF_PAIRS_MAX
  pub few : length leaves < LEAVES_MAX
  pub anchor : List ℕ
  pub parts : PartsAt leaf.pairs LEAF_PAIRS_KEPT anchor
  pub effect : after ≡ set leaves number (left_half leaf anchor) ++ right_half leaf anchor ∷ []
  pub told : more ≡ splits ++ record { anchor = anchor; leaf = length leaves } ∷ []

-- ---- publish: not fewer than before, and not more than there are

pub record Publishes (splits : List Anchored) (published adds : ℕ) : Type 0 where
  pub from : published ≤ adds
  pub upto : adds ≤ length splits

-- ---- enter: always; the walker stands on the leaf that the published table gives, and has not gone right

abbrev pub entered : List Anchored → ℕ → List ℕ → Walker
entered splits published key = record { key = key; leaf = cover (take published splits) key; rights = 0; adds = published }

-- the walkers with this one at a number
abbrev pub with_walker : List (ℕ × Walker) → ℕ → Walker → List (ℕ × Walker)
with_walker walkers number walker = insert_entry nat_cmp walkers number walker

-- ---- right: the walker's leaf does not cover its key; it stands on the leaf that begins where that one ends

abbrev pub moved : Walker → ℕ → Walker
moved walker right = record walker { leaf = right; rights = walker.rights + 1 }

pub record GoesRight (leaves : List LeafState) (walkers : List (ℕ × Walker)) (number right : ℕ) (after : List (ℕ × Walker)) : Type 0 where
  pub walker : Walker
  pub leaf : LeafState
  pub stands : Stands leaves walkers number walker leaf
  pub outside : covers leaf walker.key ≡ false
  pub neighbour : IsRightOf leaves leaf right
  pub effect : after ≡ with_walker walkers number (moved walker right)

-- ---- answer: the walker's leaf covers its key

pub record IsFound (leaves : List LeafState) (walkers : List (ℕ × Walker)) (number : ℕ) (answer : LeafAnswer) : Type 0 where
  pub walker : Walker
  pub leaf : LeafState
  pub stands : Stands leaves walkers number walker leaf
  pub inside : covers leaf walker.key ≡ true
  pub told : answer ≡ answers.Found walker.leaf (change_at leaf.pairs walker.key) walker.rights

-- ---- one step, and a list of them

-- the step of an event: from this world, with this answer, to that world
abbrev pub StepsTo : World → LeafEvent → LeafAnswer → World → Type 0
StepsTo w (events.Put number pair) a next =
    (leaves : List LeafState) × Puts w.leaves w.walkers number pair leaves × (a ≡ answers.Done) × (next ≡ record w { leaves = leaves })
StepsTo w (events.Split number) a next =
    (leaves : List LeafState) × (splits : List Anchored) × SplitsLeaf w.leaves w.splits number leaves splits
    × (a ≡ answers.Done) × (next ≡ record w { leaves = leaves; splits = splits })
StepsTo w (events.Publish adds) a next = Publishes w.splits w.published adds × (a ≡ answers.Done) × (next ≡ record w { published = adds })
StepsTo w (events.Enter number key) a next =
    let walker = entered w.splits w.published key in
    (a ≡ answers.At walker.leaf) × (next ≡ record w { walkers = with_walker w.walkers number walker })
StepsTo w (events.Right number) a next =
    (right : ℕ) × (walkers : List (ℕ × Walker)) × GoesRight w.leaves w.walkers number right walkers
    × (a ≡ answers.At right) × (next ≡ record w { walkers = walkers })
StepsTo w (events.Answer number) a next = IsFound w.leaves w.walkers number a × (next ≡ w)

-- an event that has no step from here
abbrev pub HasNoStep : World → LeafEvent → Type 0
HasNoStep w event = (a : LeafAnswer) (next : World) → StepsTo w event a next → ⊥

-- the steps of a list of events, each from where the one before led
abbrev pub RunsTo : World → List LeafEvent → List LeafAnswer → World → Type 0
RunsTo w [] [] next = next ≡ w
RunsTo w (e ∷ es) (a ∷ more) next = (mid : World) × StepsTo w e a mid × RunsTo mid es more next
RunsTo w [] (a ∷ more) next = ⊥
RunsTo w (e ∷ es) [] next = ⊥

-- the first so many events have happened
abbrev pub HasRun : World → List LeafEvent → ℕ → World → Type 0
HasRun w es n next = (more : List LeafAnswer) × (n ≤ length es) × RunsTo w (take n es) more next

-- events have led here from the beginning
abbrev pub IsReached : World → Type 0
IsReached w = (es : List LeafEvent) × (more : List LeafAnswer) × RunsTo opening es more w
