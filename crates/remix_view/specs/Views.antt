-- A view: selectors in segments of 32 places, and where each run stands at the first place of a segment. It has no key.
use Rattle.std.specs.Prelude.{◌≡◌, ℕ, ◌+◌, ◌-◌, ◌<◌, ◌≤◌, ◌^◌, List, length, take, replicate, ◌++◌, slice_index, slice_get, Option, Some, None}
use Rattle.std.specs.List.{AllByRecursion}
use Rattle.remix_view.specs.declared.segment.Segment.{Segment}
use Rattle.remix_view.specs.Selectors.{IsSelector, rank_in}

-- what a view stands for: how many runs it orders, and its segments
pub record ViewState : Type 0 where
  pub runs : ℕ
  pub segments : List Segment

-- a segment whose selectors name runs that there are, and places below 2^32
pub record IsFormedSegment (runs : ℕ) (segment : Segment) : Type 0 where
  pub offsets : length segment.offsets ≡ 8
  pub places : length segment.selectors ≡ 32
  pub named : AllByRecursion (IsSelector runs) segment.selectors
  pub reach : (run : ℕ) → run < runs → slice_index segment.offsets run + rank_in run segment.selectors < 2 ^ 32

-- what holds of every view
pub record IsFormed (view : ViewState) : Type 0 where
  pub runs : view.runs ≤ 8
  pub few : length view.segments < 2 ^ 32
  pub each : AllByRecursion (IsFormedSegment view.runs) view.segments

-- the segment of these offsets and selectors: a run that there is not has the offset 0
abbrev pub segment_with : List ℕ → List ℕ → Segment
segment_with offsets selectors = record { offsets = offsets ++ replicate (8 - length offsets) 0; selectors = selectors }

-- the selector of a place
abbrev pub SelectorOf : Option Segment → ℕ → ℕ → Type 0
SelectorOf None place selector = ⊥
SelectorOf (Some segment) place selector = selector ≡ slice_index segment.selectors place

abbrev pub SelectorAt : ViewState → ℕ → ℕ → ℕ → Type 0
SelectorAt view segment place selector = SelectorOf (slice_get view.segments segment) place selector

-- the place of a run at the first place of a segment
abbrev pub OffsetOf : Option Segment → ℕ → ℕ → Type 0
OffsetOf None run offset = ⊥
OffsetOf (Some segment) run offset = offset ≡ slice_index segment.offsets run

abbrev pub OffsetAt : ViewState → ℕ → ℕ → ℕ → Type 0
OffsetAt view segment run offset = OffsetOf (slice_get view.segments segment) run offset

-- how many selectors of a run stand before a place of a segment
abbrev pub RankOf : Option Segment → ℕ → ℕ → ℕ → Type 0
RankOf None place run rank = ⊥
RankOf (Some segment) place run rank = rank ≡ rank_in run (take place segment.selectors)

abbrev pub RankAt : ViewState → ℕ → ℕ → ℕ → ℕ → Type 0
RankAt view segment place run rank = RankOf (slice_get view.segments segment) place run rank
