-- A published trie: what is appended and published of it, and what each seat knows of it: a reader's seat, or the writer's.
use Rattle.std.specs.Prelude.{◌≡◌, ℕ, List, [], ◌∷◌, ◌++◌, map, fold, Option, Some, None}
use mathlib.Core.List.{IsPrefix}
use mathlib.Core.Option.{some}
use lib.ListN.{get_elem?}
use Rattle.logbook.specs.Pages.{Book}
use Rattle.meta_trie.specs.Tries.{Anchored}

-- a beginning of the anchors that were appended on one switch. Which switch it is, its name says
pub record FrontState : Type 0 where
  pub switch : Book
  pub anchors : List Anchored

-- a front with one anchor more
abbrev pub with_anchor : FrontState → Anchored → FrontState
with_anchor front last = record { switch = front.switch; anchors = front.anchors ++ last ∷ [] }

-- one of the two copies: the anchors in its trie, and the front that came with the last of them
pub record CopyState : Type 0 where
  pub added : List Anchored
  pub front : FrontState

-- an anchor that was appended, and the front that it ends
pub record ToldState : Type 0 where
  pub last : Anchored
  pub front : FrontState

abbrev pub with_told : CopyState → ToldState → CopyState
with_told copy told = record { added = copy.added ++ told.last ∷ []; front = told.front }

abbrev pub told_all : CopyState → List ToldState → CopyState
told_all copy told = fold with_told copy told

abbrev pub anchors_of : List ToldState → List Anchored
anchors_of told = map (λ t. t.last) told

-- a copy has the anchors of its front
abbrev pub IsWhole : CopyState → Type 0
IsWhole copy = copy.added ≡ copy.front.anchors

-- a copy may follow another one: it is of the same switch, and its anchors go on from the other's
pub record IsNext (before after : CopyState) : Type 0 where
  pub whole : IsWhole after
  pub switch : after.front.switch ≡ before.front.switch
  pub grows : IsPrefix before.front.anchors after.front.anchors

-- a front goes on from what a seat knows; a seat that was just made knows nothing
abbrev pub GoesOnFrom : Option FrontState → FrontState → Type 0
GoesOnFrom None front = Unit {0}
GoesOnFrom (Some known) front = (front.switch ≡ known.switch) × IsPrefix known.anchors front.anchors

-- what each seat knows is a front of what is published, on the same switch
abbrev pub Keeps : CopyState → List (Option FrontState) → Type 0
Keeps copy views = IsWhole copy × ((seat : ℕ) (known : Option FrontState) → get_elem? views seat ≡ some known → GoesOnFrom known copy.front)

-- all that is published is known then, and what was known before is a front of it
abbrev pub Sees : Option FrontState → CopyState → Option FrontState → Type 0
Sees before published after = IsWhole published × GoesOnFrom before published.front × (after ≡ Some published.front)

-- the anchors that a writer has published, and those that it has appended since, in order
pub record WriterState : Type 0 where
  pub switch : Book
  pub published : List Anchored
  pub pending : List Anchored

-- all anchors that were appended, the published ones first
abbrev pub all_appended : WriterState → List Anchored
all_appended writer = writer.published ++ writer.pending

abbrev pub front_of : WriterState → FrontState
front_of writer = record { switch = writer.switch; anchors = all_appended writer }

-- what a writer has: its own trie, all that it appended, the copy that readers take, what its seat knows, and what is pending
pub record IsWriter (own : List Anchored) (roll : FrontState) (shown : CopyState) (seat : Option FrontState) (told : List ToldState) : Type 0 where
  pub added : own ≡ shown.added ++ anchors_of told
  pub whole : IsWhole shown
  pub next : IsNext shown (told_all shown told)
  pub all : (told_all shown told).front ≡ roll
  pub known : seat ≡ Some shown.front

-- what is pending: what the kit's writer was told, and the one that waits to be told
abbrev pub pending_of : List ToldState → Option ToldState → List ToldState
pending_of told None = told
pending_of told (Some last) = told ++ last ∷ []
