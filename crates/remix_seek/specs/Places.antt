-- Places of a view: where a key is first met, and what it costs to find it.
use Rattle.std.specs.Prelude.{◌≡◌, ◌⊎◌, ℕ, ◌+◌, ◌<◌, ◌≤◌, ◌^◌, max, List, length, take, slice_get, Some, Result, Ok, Err}
use Rattle.std.specs.List.{sum_by}
use Rattle.rdb_base.specs.declared.pair.Pair.{Pair}
use Rattle.remix_view.specs.declared.segment.Segment.{Segment}
use Rattle.remix_view.specs.Views.{ViewState}
use Rattle.remix_seek.specs.Indexes.{filled, below_in}

-- how many versions stand before a place
abbrev pub versions_before : ViewState → ℕ → ℕ → ℕ
versions_before view segment place = sum_by filled (take segment view.segments) + place

-- a place that holds a version, or the end place
abbrev pub IsStanding : ViewState → ℕ → ℕ → Type 0
IsStanding view segment place = ((segment ≡ length view.segments) × (place ≡ 0)) ⊎ ((s : Segment) × (slice_get view.segments segment ≡ Some s) × (place < filled s))

-- how many keys of all runs are below this one
abbrev pub all_below : List ℕ → List (List Pair) → ℕ
all_below key runs = sum_by (below_in key) runs

-- the place of the first key not below this one: just as many versions stand before it as all runs have keys below
pub record IsFirstPlace (runs : List (List Pair)) (view : ViewState) (key : List ℕ) (segment place : ℕ) : Type 0 where
  pub stands : IsStanding view segment place
  pub first : versions_before view segment place ≡ all_below key runs

-- the answer of a search: that place, and never a refusal
abbrev pub FoundFirst : {E : Type 0} → List (List Pair) → ViewState → List ℕ → Result (ℕ × ℕ) E → Type 0
FoundFirst runs view key (Ok (segment, place)) = IsFirstPlace runs view key segment place
FoundFirst runs view key (Err error) = ⊥

-- a search's steps: for each n whose power of two covers the segments at most n + 6
abbrev pub SeekCost : ViewState → ℕ → ℕ → Type 0
SeekCost view before now = (n : ℕ) → max (length view.segments) 1 ≤ 2 ^ n → now ≤ before + n + 6
