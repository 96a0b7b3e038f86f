-- The older side of a listing: the versions of a set that show, in order, and the pairs that they are.
use Rattle.std.specs.Prelude.{◌≡◌, ℕ, Bool, true, not, ◌||◌, filter, drop, List, [], ◌∷◌, ◌++◌, map, slice_get, Option, Some, None}
use Rattle.rdb_base.specs.declared.pair.Pair.{Pair}
use Rattle.remix_view.specs.declared.spot.Spot.{Spot}
use Rattle.remix_view.specs.declared.walk.Walk.{Walk}
use Rattle.remix_view.specs.Views.{ViewState, IsFormed}
use Rattle.remix_view.specs.Spots.{spots_from, IsSpotPlace}
use Rattle.remix_seek.specs.Versions.{run_at}
use Rattle.partition_set.specs.Partitions.{PartState}
use Rattle.overlay_view.specs.declared.set_place.SetPlace.{SetPlace}
use Rattle.overlay_view.specs.declared.older.Older.{Older}
use Rattle.overlay_view.specs.declared.older.Shown.{Shown}

-- ---- one partition

-- whether a version shows: the newest of its key, and no deletion
abbrev pub shows : Spot → Bool
shows spot = not (spot.old || spot.del)

-- the spots from a walk's place on that show
abbrev pub shown_from : ViewState → Walk → List Spot
shown_from view walk = filter shows (spots_from view walk.segment walk.place)

-- the pair that a spot names
abbrev pub pair_of : List (List Pair) → Spot → Option Pair
pair_of runs spot = slice_get (run_at runs spot.run) spot.place

-- there is a pair
abbrev pub IsThere : Option Pair → Type 0
IsThere None = ⊥
IsThere (Some pair) = Unit {0}

-- a spot names a pair that is there
abbrev pub HasPair : List (List Pair) → Spot → Type 0
HasPair runs spot = IsThere (pair_of runs spot)

-- these pairs after one more, where it is there
abbrev pub after_pair : Option Pair → List Pair → List Pair
after_pair None pairs = pairs
after_pair (Some pair) pairs = pair ∷ pairs

-- the pairs that spots name
abbrev pub pairs_of : List (List Pair) → List Spot → List Pair
pairs_of runs [] = []
pairs_of runs (spot ∷ spots) = after_pair (pair_of runs spot) (pairs_of runs spots)

-- the walk from the first place on
abbrev pub from_first : Walk
from_first = record { segment = 0; place = 0 }

-- the pairs of a partition that show, from a walk's place on
abbrev pub shown_in : {T : Type 0} → (T → List Pair) → PartState T → Walk → List Pair
shown_in run part walk = pairs_of (map run part.runs) (shown_from part.view walk)

-- ---- a set

-- the pairs of these partitions that show
abbrev pub shown_of : {T : Type 0} → (T → List Pair) → List (PartState T) → List Pair
shown_of run [] = []
shown_of run (part ∷ parts) = shown_in run part from_first ++ shown_of run parts

-- the same, from a walk's place in the first of them on
abbrev pub shown_past : {T : Type 0} → (T → List Pair) → List (PartState T) → Walk → List Pair
shown_past run [] walk = []
shown_past run (part ∷ parts) walk = shown_in run part walk ++ shown_of run parts

-- the pairs of a set that show, from a walk's place in a partition on
abbrev pub older_from : {T : Type 0} → (T → List Pair) → List (PartState T) → ℕ → Walk → List Pair
older_from run parts number walk = shown_past run (drop number parts) walk

-- the walk from a place on
abbrev pub walk_at : SetPlace → Walk
walk_at place = record { segment = place.segment; place = place.place }

-- the pairs that are left where the older side stands
abbrev pub older_left : {T : Type 0} → (T → List Pair) → List (PartState T) → Older → List Pair
older_left run parts older = older_from run parts older.place.part (walk_at older.place)

-- and after the version there
abbrev pub older_rest : {T : Type 0} → (T → List Pair) → List (PartState T) → Older → List Pair
older_rest run parts older = older_from run parts older.place.part older.after

-- ---- where the older side stands

-- the next version of a view that shows, with its place and the walk after it; none exactly where none shows
abbrev pub NextShown : ViewState → Walk → Option Shown → Type 0
NextShown view walk None = shown_from view walk ≡ []
NextShown view walk (Some next) = IsSpotPlace view next.segment next.place
    × (spots_from view next.segment next.place ≡ (next.spot ∷ spots_from view next.after.segment next.after.place))
    × (shows next.spot ≡ true)
    × (shown_from view walk ≡ (next.spot ∷ shown_from view next.after))
    × IsFormed view

-- a version that shows stands at a place
pub record StandsAt {T : Type 0} (parts : List (PartState T)) (place : SetPlace) (after : Walk) (spot : Spot) : Type 0 where
  pub part : PartState T
  pub at : slice_get parts place.part ≡ Some part
  pub formed : IsFormed part.view
  pub there : IsSpotPlace part.view place.segment place.place
  pub spots : spots_from part.view place.segment place.place ≡ (spot ∷ spots_from part.view after.segment after.place)
  pub shown : shows spot ≡ true

-- the older side stands at a version that shows, or nothing of it is left
abbrev pub StandsBy : {T : Type 0} → (T → List Pair) → List (PartState T) → Older → Option Spot → Type 0
StandsBy run parts older None = older_left run parts older ≡ []
StandsBy run parts older (Some spot) = StandsAt parts older.place older.after spot

abbrev pub Stands : {T : Type 0} → (T → List Pair) → List (PartState T) → Older → Type 0
Stands run parts older = StandsBy run parts older older.spot
