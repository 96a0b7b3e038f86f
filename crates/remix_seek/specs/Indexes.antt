-- When an index stands for runs. Build, seek, and whoever checks or extends an index cite this one record.
use Rattle.std.specs.Prelude.{◌≡◌, ℕ, ◌+◌, ◌<◌, Bool, true, false, not, filter, List, [], ◌∷◌, length, drop, slice_index, slice_get, Some, None}
use Rattle.std.specs.List.{AllByRecursion, flat_map, count_by, take_while}
use Rattle.std.specs.Ordering.{is_lt}
use Rattle.rdb_base.specs.Order.{key_cmp}
use Rattle.rdb_base.specs.declared.pair.Pair.{Pair}
use Rattle.remix_view.specs.declared.segment.Segment.{Segment}
use Rattle.remix_view.specs.Selectors.{is_filler, old_in}
use Rattle.remix_view.specs.Views.{ViewState}
use Rattle.remix_seek.specs.Versions.{Version, IsSortedView, run_at, selectors_after}

abbrev pub not_filler : ℕ → Bool
not_filler selector = not (is_filler selector)

-- the selectors of a view without its fillers
abbrev pub named_in : ViewState → List ℕ
named_in view = flat_map (λ segment. filter not_filler segment.selectors) view.segments

-- how many places of a segment hold a version
abbrev pub filled : Segment → ℕ
filled segment = count_by not_filler segment.selectors

-- how many places the first key of a segment takes
abbrev pub first_group : Segment → ℕ
first_group segment = 1 + length (take_while (λ selector. old_in selector) (drop 1 segment.selectors))

-- after a filler only fillers stand
abbrev pub IsClosed : List ℕ → Type 0
IsClosed [] = Unit {0}
IsClosed (selector ∷ selectors) = (is_filler selector ≡ true → AllByRecursion (λ other. is_filler other ≡ true) selectors) × IsClosed selectors

-- 32 places, a newest version at the first, and fillers only at the end
pub record IsSegment (segment : Segment) : Type 0 where
  pub places : length segment.selectors ≡ 32
  pub some : is_filler (slice_index segment.selectors 0) ≡ false
  pub newest : old_in (slice_index segment.selectors 0) ≡ false
  pub closed : IsClosed segment.selectors

-- a segment ends only where the next key's versions do not fit the places that are left
abbrev pub ArePacked : List Segment → Type 0
ArePacked [] = Unit {0}
ArePacked (segment ∷ []) = Unit {0}
ArePacked (segment ∷ (next ∷ segments)) = (32 < filled segment + first_group next) × ArePacked (next ∷ segments)

-- how many keys of a run are below this one
abbrev pub below_in : List ℕ → List Pair → ℕ
below_in key pairs = count_by (λ pair. is_lt (key_cmp pair.key key)) pairs

-- how many keys of each of eight runs are below this one, 0 where there is no such run
abbrev pub counts_below : List ℕ → List (List Pair) → List ℕ
counts_below key runs = below_in key (run_at runs 0) ∷ below_in key (run_at runs 1) ∷ below_in key (run_at runs 2) ∷ below_in key (run_at runs 3) ∷ below_in key (run_at runs 4) ∷ below_in key (run_at runs 5) ∷ below_in key (run_at runs 6) ∷ below_in key (run_at runs 7) ∷ []

-- the version at a place has this key
abbrev pub IsKeyAt : ℕ → List Version → List ℕ → Type 0
IsKeyAt n versions key = (v : Version) × (slice_get versions n ≡ Some v) × (v.pair.key ≡ key)

-- segments whose first version is the one at this place: each anchor is the key at place 0, each offset a count of keys below it
abbrev pub AreAnchored : List (List Pair) → List Version → ℕ → List Segment → List (List ℕ) → Type 0
AreAnchored runs versions n [] [] = Unit {0}
AreAnchored runs versions n [] (anchor ∷ anchors) = ⊥
AreAnchored runs versions n (segment ∷ segments) [] = ⊥
AreAnchored runs versions n (segment ∷ segments) (anchor ∷ anchors) = IsKeyAt n versions anchor × (segment.offsets ≡ counts_below anchor runs) × AreAnchored runs versions (n + filled segment) segments anchors

-- an index stands for runs, the newest first
pub record Indexes (runs : List (List Pair)) (view : ViewState) (anchors : List (List ℕ)) : Type 0 where
  pub versions : List Version
  pub view_of : IsSortedView runs versions
  pub runs_told : view.runs ≡ length runs
  pub named : named_in view ≡ selectors_after None versions
  pub segments : AllByRecursion IsSegment view.segments
  pub packed : ArePacked view.segments
  pub anchored : AreAnchored runs versions 0 view.segments anchors
