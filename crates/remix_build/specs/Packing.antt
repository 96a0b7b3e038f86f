-- Selectors cut into segments.
use Rattle.std.specs.Prelude.{◌^◌, ◌≡◌, ◌⊎◌, ℕ, ◌+◌, ◌-◌, ◌<◌, ◌≤◌, true, false, List, [], ◌∷◌, ◌++◌, take, drop, filter, ◌==◌, replicate, length, slice_index}
use Rattle.std.specs.List.{take_while, flat_map, count_by, sum_by, AllByRecursion}
use Rattle.rdb_base.specs.declared.pair.Pair.{Pair}
use Rattle.remix_view.specs.declared.segment.Segment.{Segment}
use Rattle.remix_view.specs.declared.selector.TheConstants.{FILLER}
use Rattle.remix_build.specs.Merging.{IsOrder}
use Rattle.remix_view.specs.Selectors.{old_in, rank_in}
use Rattle.remix_seek.specs.Indexes.{filled, first_group, not_filler, IsSegment, ArePacked, AreAnchored}
use Rattle.rdb_base.specs.Runs.{IsRun}

-- the versions of the first key of a segment do not fit after the last one of these
abbrev pub LastFull : List Segment → Segment → Type 0
LastFull [] next = Unit {0}
LastFull (segment ∷ []) next = 32 < filled segment + first_group next
LastFull (segment ∷ (other ∷ segments)) next = LastFull (other ∷ segments) next

-- how many versions the first key has
abbrev pub group_size : List ℕ → ℕ
group_size [] = 0
group_size (selector ∷ selectors) = 1 + length (take_while (λ other. old_in other) selectors)

-- so many selectors fill a segment: a newest version or the end stands after them, and what stands from there to the thirty-third is old
pub record GroupCut (selectors : List ℕ) (n : ℕ) : Type 0 where
  pub inside : n ≤ length selectors
  pub most : n ≤ 32
  pub ends : (n < length selectors) → old_in (slice_index selectors n) ≡ true → n ≡ 0
  pub full : (i : ℕ) → n < i → i ≤ 32 → i < length selectors → old_in (slice_index selectors i) ≡ true
  pub whole : n < 32 → 32 < length selectors ⊎ (n ≡ length selectors)

-- the versions that stand next do not fit after the last of these segments
abbrev pub LastClosed : List Segment → List ℕ → Type 0
LastClosed [] rest = Unit {0}
LastClosed (segment ∷ []) rest = 32 < filled segment + group_size rest
LastClosed (segment ∷ (other ∷ segments)) rest = LastClosed (other ∷ segments) rest

-- the segment of so many selectors, the rest of whose places have fillers
pub record IsSegmentOf (selectors : List ℕ) (n : ℕ) (counts : List ℕ) (segment : Segment) : Type 0 where
  pub offsets : segment.offsets ≡ counts
  pub selectors_are : segment.selectors ≡ take n selectors ++ replicate (32 - n) FILLER

-- these counts, and 0 for each run of eight that there is not: so a view keeps them
abbrev pub eight_counts : List ℕ → List ℕ
eight_counts counts = counts ++ replicate (8 - length counts) 0

-- the index of the first so many selectors, and how many versions of each run they name
pub record Packed (runs : List (List Pair)) (order : List ℕ) (segments : List Segment) (anchors : List (List ℕ)) (counts : List ℕ) (at : ℕ) : Type 0 where
  pub order_is : IsOrder runs order
  pub inside : at ≤ length order
  pub named : flat_map (λ g. filter not_filler g.selectors) segments ≡ take at order
  pub each : AllByRecursion IsSegment segments
  pub packed : ArePacked segments
  pub closed : at < length order → LastClosed segments (drop at order)
  pub anchored : AreAnchored runs order_is.versions 0 segments anchors
  pub start : sum_by filled segments ≡ at
  pub newest : at < length order → old_in (slice_index order at) ≡ false
  pub long : length counts ≡ length runs
  pub counted : (run : ℕ) → run < length runs → slice_index counts run ≡ count_by (λ v. v.run == run) (take at order_is.versions)

-- the counts by run, on from older counts
abbrev pub CountedOn : List ℕ → List ℕ → List ℕ → Type 0
CountedOn older selectors newer = (length newer ≡ length older) × ((run : ℕ) → run < length older → slice_index newer run ≡ slice_index older run + rank_in run selectors)

-- runs as their trait tells them: they rise, and each is shorter than 2^32
abbrev pub AreRuns : List (List Pair) → Type 0
AreRuns runs = AllByRecursion (λ run. IsRun run × (length run < 2 ^ 32)) runs
