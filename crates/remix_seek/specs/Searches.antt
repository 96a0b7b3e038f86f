-- The tests of a search: over anchors, and over the places of a segment.
use Rattle.std.specs.Prelude.{◌≡◌, ℕ, ◌+◌, ◌<◌, List, length, slice_get, Some, Option, None, take, Bool, false, not, nat_lt, ◌&&◌, slice_index, if◌then◌else◌}
use Rattle.std.specs.Ordering.{is_lt}
use Rattle.rdb_base.specs.Order.{key_cmp}
use Rattle.rdb_base.specs.declared.pair.Pair.{Pair}
use Rattle.remix_view.specs.declared.segment.Segment.{Segment}
use Rattle.remix_view.specs.Selectors.{is_filler, run_in, rank_in}
use Rattle.remix_view.specs.Views.{ViewState}
use Rattle.remix_seek.specs.Versions.{run_at}

-- the anchor of a segment
abbrev pub AnchorOf : Option (List ℕ) → List ℕ → Type 0
AnchorOf None anchor = ⊥
AnchorOf (Some key) anchor = anchor ≡ key

abbrev pub AnchorAt : List (List ℕ) → ℕ → List ℕ → Type 0
AnchorAt anchors segment anchor = AnchorOf (slice_get anchors segment) anchor

-- whether there is an anchor, and it is below the key
abbrev pub key_below : List ℕ → Option (List ℕ) → Bool
key_below key None = false
key_below key (Some anchor) = is_lt (key_cmp anchor key)

-- whether the anchor of a segment is below the key
abbrev pub anchor_below : List (List ℕ) → List ℕ → ℕ → Bool
anchor_below anchors key segment = key_below key (slice_get anchors segment)

-- whether there is a pair, and its key is below this one
abbrev pub pair_below : List ℕ → Option Pair → Bool
pair_below key None = false
pair_below key (Some pair) = is_lt (key_cmp pair.key key)

-- whether a run's key at a place is below this one
abbrev pub below_at : List Pair → List ℕ → ℕ → Bool
below_at run key place = pair_below key (slice_get run place)

-- the place in its run that a selector names
abbrev pub place_in_run : Segment → ℕ → ℕ → ℕ
place_in_run segment place selector = slice_index segment.offsets (run_in selector) + rank_in (run_in selector) (take place segment.selectors)

-- whether a place of a segment holds a version whose key is below this one
abbrev pub below_in_segment : List (List Pair) → Option Segment → List ℕ → ℕ → Bool
below_in_segment runs None key place = false
below_in_segment runs (Some segment) key place = if is_filler (slice_index segment.selectors place) then false else below_at (run_at runs (run_in (slice_index segment.selectors place))) key (place_in_run segment place (slice_index segment.selectors place))

abbrev pub place_below : List (List Pair) → ViewState → ℕ → List ℕ → ℕ → Bool
place_below runs view segment key place = below_in_segment runs (slice_get view.segments segment) key place

-- the pair that a place of a segment names is there
pub record IsThere (runs : List (List Pair)) (segment : Segment) (place : ℕ) : Type 0 where
  pub run : run_in (slice_index segment.selectors place) < length runs
  pub pair : place_in_run segment place (slice_index segment.selectors place) < length (run_at runs (run_in (slice_index segment.selectors place)))

-- so it is at each place without a filler
abbrev pub ArePairsThere : List (List Pair) → Option Segment → Type 0
ArePairsThere runs None = ⊥
ArePairsThere runs (Some segment) = (place : ℕ) → place < 32 → is_filler (slice_index segment.selectors place) ≡ false → IsThere runs segment place

abbrev pub IsReadable : List (List Pair) → ViewState → ℕ → Type 0
IsReadable runs view segment = ArePairsThere runs (slice_get view.segments segment)

-- whether a place of a segment that is there has a filler
abbrev pub filler_of : Option Segment → ℕ → Bool
filler_of None place = false
filler_of (Some segment) place = is_filler (slice_index segment.selectors place)

abbrev pub is_filler_at : ViewState → ℕ → ℕ → Bool
is_filler_at view segment place = filler_of (slice_get view.segments segment) place

-- whether a place of a segment that is there holds a version
abbrev pub holds_at : ViewState → ℕ → ℕ → Bool
holds_at view segment place = nat_lt place 32 && not (is_filler_at view segment place)
