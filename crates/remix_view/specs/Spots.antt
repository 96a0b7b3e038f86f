-- The spots that a view names, in order, and what is left of them from a place on.
use Rattle.std.specs.Prelude.{◌≡◌, ◌⊎◌, ℕ, ◌+◌, ◌<◌, Bool, nat_lt, not, false, ◌||◌, List, [], ◌∷◌, ◌++◌, length, take, drop, slice_index, slice_get, Option, Some, None, if◌then◌else◌}
use Rattle.std.specs.List.{flat_map}
use Rattle.remix_view.specs.declared.spot.Spot.{Spot}
use Rattle.remix_view.specs.declared.segment.Segment.{Segment}
use Rattle.remix_view.specs.Selectors.{is_filler, run_in, old_in, del_in, rank_in}
use Rattle.remix_view.specs.Views.{ViewState}

-- the spot that a selector names after these: as many places on in its run as it was named before
abbrev pub spot_at : List ℕ → List ℕ → ℕ → Spot
spot_at offsets before selector = record { run = run_in selector; place = slice_index offsets (run_in selector) + rank_in (run_in selector) before; old = old_in selector; del = del_in selector }

-- the spots of these selectors, which stand after those before
abbrev pub spots_past : List ℕ → List ℕ → List ℕ → List Spot
spots_past offsets before [] = []
spots_past offsets before (selector ∷ selectors) = if is_filler selector then spots_past offsets (before ++ selector ∷ []) selectors else spot_at offsets before selector ∷ spots_past offsets (before ++ selector ∷ []) selectors

-- the spots of a segment
abbrev pub spots_in : Segment → List Spot
spots_in segment = spots_past segment.offsets [] segment.selectors

-- all spots of a view
abbrev pub spots_of : ViewState → List Spot
spots_of view = flat_map spots_in view.segments

-- the spots from a place of the first of these segments on
abbrev pub spots_from_place : ℕ → List Segment → List Spot
spots_from_place place [] = []
spots_from_place place (segment ∷ segments) = spots_past segment.offsets (take place segment.selectors) (drop place segment.selectors) ++ flat_map spots_in segments

-- the spots from a place of a view on
abbrev pub spots_from : ViewState → ℕ → ℕ → List Spot
spots_from view segment place = spots_from_place place (drop segment view.segments)

-- the first of a list, and what is left; nothing exactly where the list is empty
abbrev pub NextOf : {X : Type 0} → List X → Option X → List X → Type 0
NextOf before None later = (before ≡ []) × (later ≡ [])
NextOf before (Some x) later = before ≡ (x ∷ later)

-- whether a segment that is there has no spot at this place
abbrev pub passed_of : Option Segment → ℕ → Bool
passed_of None place = false
passed_of (Some segment) place = not (nat_lt place 32) || is_filler (slice_index segment.selectors place)

abbrev pub passed_at : ViewState → ℕ → ℕ → Bool
passed_at view segment place = passed_of (slice_get view.segments segment) place

-- a spot stands at this place
abbrev pub HasSpot : Option Segment → ℕ → Type 0
HasSpot None place = ⊥
HasSpot (Some segment) place = (place < 32) × (is_filler (slice_index segment.selectors place) ≡ false)

abbrev pub IsSpotPlace : ViewState → ℕ → ℕ → Type 0
IsSpotPlace view segment place = HasSpot (slice_get view.segments segment) place

-- the end place, or one where a spot stands
abbrev pub IsAhead : ViewState → ℕ → ℕ → Type 0
IsAhead view segment place = ((segment ≡ length view.segments) × (place ≡ 0)) ⊎ IsSpotPlace view segment place

-- the spot that stands at this place
abbrev pub SpotOf : Option Segment → ℕ → Spot → Type 0
SpotOf None place spot = ⊥
SpotOf (Some segment) place spot = spot ≡ spot_at segment.offsets (take place segment.selectors) (slice_index segment.selectors place)

abbrev pub SpotAt : ViewState → ℕ → ℕ → Spot → Type 0
SpotAt view segment place spot = SpotOf (slice_get view.segments segment) place spot
