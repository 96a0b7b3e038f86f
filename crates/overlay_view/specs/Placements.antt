-- Where newer rows stand among the versions of a set, and what it costs to find that out.
use Rattle.std.specs.Prelude.{◌≡◌, ℕ, ◌+◌, ◌≤◌, ◌^◌, max, Bool, false, not, ◌&&◌, List, [], ◌∷◌, length, map, Option, Some, None}
use Rattle.std.specs.List.{AllByRecursion, sum_by}
use Rattle.std.specs.Ordering.{is_eq, nat_cmp}
use Rattle.std.specs.declared.cmp.Ordering.{Ordering}
use Rattle.std.specs.declared.cmp.Ordering.TheVariants.{Less, Equal, Greater}
use Rattle.rdb_base.specs.Order.{key_cmp}
use Rattle.rdb_base.specs.Runs.{IsRun}
use Rattle.rdb_base.specs.declared.pair.Pair.{Pair}
use Rattle.remix_view.specs.declared.spot.Spot.{Spot}
use Rattle.remix_view.specs.Views.{IsFormed}
use Rattle.remix_view.specs.Spots.{spots_from}
use Rattle.remix_seek.specs.Places.{IsFirstPlace}
use Rattle.partition_set.specs.Partitions.{PartState, IsSet}
use Rattle.partition_set.specs.Bounds.{IsPartOf}
use Rattle.overlay_view.specs.declared.set_place.SetPlace.{SetPlace}
use Rattle.overlay_view.specs.declared.placement.Placement.{Placement}
use Rattle.overlay_view.specs.Older.{pair_of}

-- newer rows, and where each stands
pub record UpperState : Type 0 where
  pub rows : List Pair
  pub placements : List Placement

-- ---- the order of places

-- the second order where the first is a tie
abbrev pub or_else : Ordering → Ordering → Ordering
or_else Less other = Less
or_else Equal other = other
or_else Greater other = Greater

-- by partition, then by segment, then by place
abbrev pub place_cmp : SetPlace → SetPlace → Ordering
place_cmp a b = or_else (nat_cmp a.part b.part) (or_else (nat_cmp a.segment b.segment) (nat_cmp a.place b.place))

-- a tie, where the newer row hides what stands there; else the newer row is before it
abbrev pub tie_by : Bool → Ordering
tie_by false = Less
tie_by hides = Equal

-- the order of a newer row's key and the key of the version at a place, told by places alone
abbrev pub row_order : Placement → SetPlace → Ordering
row_order placement place = or_else (place_cmp placement.place place) (tie_by placement.hides)

-- ---- the placement of a key

-- whether there is a pair with this key
abbrev pub has_this_key : Option Pair → List ℕ → Bool
has_this_key None key = false
has_this_key (Some pair) key = is_eq (key_cmp pair.key key)

-- whether a spot is no deletion and has this key
abbrev pub shows_key : List (List Pair) → Spot → List ℕ → Bool
shows_key runs spot key = not spot.del && has_this_key (pair_of runs spot) key

-- whether the first of these spots, if there is one, shows this key
abbrev pub first_shows : List (List Pair) → List Spot → List ℕ → Bool
first_shows runs [] key = false
first_shows runs (spot ∷ spots) key = shows_key runs spot key

-- where a key stands: in its partition, at the first version not below it; and whether that one is what the key hides
pub record IsPlacedAt {T : Type 0} (run : T → List Pair) (parts : List (PartState T)) (key : List ℕ) (placement : Placement) : Type 0 where
  pub part_of : IsPartOf parts key placement.place.part
  pub first : IsFirstPlace (map run part_of.part.runs) part_of.part.view key placement.place.segment placement.place.place
  pub hides : placement.hides ≡ first_shows (map run part_of.part.runs) (spots_from part_of.part.view placement.place.segment placement.place.place) key

-- each row stands where its key stands
abbrev pub ArePlaced : {T : Type 0} → (T → List Pair) → List (PartState T) → List Pair → List Placement → Type 0
ArePlaced run parts [] [] = Unit {0}
ArePlaced run parts [] (placement ∷ placements) = ⊥
ArePlaced run parts (row ∷ rows) [] = ⊥
ArePlaced run parts (row ∷ rows) (placement ∷ placements) = IsPlacedAt run parts row.key placement × ArePlaced run parts rows placements

-- the newer rows were placed over these partitions
pub record IsPlaced {T : Type 0} (run : T → List Pair) (parts : List (PartState T)) (upper : UpperState) : Type 0 where
  pub set : IsSet run parts
  pub rises : IsRun upper.rows
  pub formed : AllByRecursion (λ part. IsFormed part.view) parts
  pub each : ArePlaced run parts upper.rows upper.placements

-- ---- the cost

-- two to the power of what a key is given covers the segments of its partition
abbrev pub CoversParts : {T : Type 0} → List (PartState T) → (List ℕ → ℕ) → Type 0
CoversParts parts power = (key : List ℕ) (index : ℕ) → (is : IsPartOf parts key index) → max (length is.part.view.segments) 1 ≤ 2 ^ power key

-- the steps that a key is placed with: those of a seek in its partition, and one more
abbrev pub KeyCost : {T : Type 0} → List (PartState T) → List ℕ → ℕ → ℕ → Type 0
KeyCost parts key before now = (power : List ℕ → ℕ) → CoversParts parts power → now ≤ before + power key + 7

-- the steps that rows are placed with: for each row those of a seek in its partition, and one more
abbrev pub PlaceCost : {T : Type 0} → List (PartState T) → List Pair → ℕ → ℕ → Type 0
PlaceCost parts rows before now = (power : List ℕ → ℕ) → CoversParts parts power → now ≤ before + sum_by (λ row. power row.key + 7) rows
