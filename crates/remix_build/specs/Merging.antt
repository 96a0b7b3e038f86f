-- Runs merged version by version: the next one is the head that is before all others, by key and then by run.
use Rattle.std.specs.Prelude.{◌≡◌, ◌≢◌, ℕ, ◌+◌, ◌<◌, Bool, true, false, ◌==◌, List, length, take, filter, slice_index, slice_get, Option, Some, None, if◌then◌else◌}
use Rattle.std.specs.List.{AllByRecursion}
use Rattle.rdb_base.specs.declared.pair.Pair.{Pair}
use Rattle.remix_seek.specs.Versions.{Version, IsSortedView, AreSorted, is_before, versions_in, run_at, selectors_after, selector_of, key_before, is_deletion}

-- the pair that a run has at its place
abbrev pub head_at : List (List Pair) → List ℕ → ℕ → Option Pair
head_at runs places run = slice_get (run_at runs run) (slice_index places run)

abbrev pub head_of : List ℕ → ℕ → Pair → Version
head_of places run pair = record { run = run; place = slice_index places run; pair = pair }

-- the version that comes next: the head of a run that is before all other heads
pub record IsNext (runs : List (List Pair)) (places : List ℕ) (run : ℕ) (pair : Pair) : Type 0 where
  pub low : run < length runs
  pub head : head_at runs places run ≡ Some pair
  pub first : (other : ℕ) (o : Pair) → other < length runs → other ≢ run → head_at runs places other ≡ Some o → is_before (head_of places run pair) (head_of places other o) ≡ true

-- no run has a head
abbrev pub AreUsedUp : List (List Pair) → List ℕ → Type 0
AreUsedUp runs places = (run : ℕ) → run < length runs → head_at runs places run ≡ None

-- the selector of a run's pair, after a version
abbrev pub selector_after : Option (List ℕ) → ℕ → ℕ → Option Pair → ℕ
selector_after last run place None = 0
selector_after last run place (Some pair) = selector_of last (record { run = run; place = place; pair = pair })

-- what is merged so far
pub record Merging (runs : List (List Pair)) (places order : List ℕ) (last : Option (List ℕ)) : Type 0 where
  pub done : List Version
  pub sorted : AreSorted done
  pub all : (run : ℕ) → filter (λ v. v.run == run) done ≡ take (slice_index places run) (versions_in run 0 (run_at runs run))
  pub ahead : (run : ℕ) (pair : Pair) → head_at runs places run ≡ Some pair → AllByRecursion (λ v. is_before v (head_of places run pair) ≡ true) done
  pub told : order ≡ selectors_after None done
  pub last_is : key_before None done (length done) ≡ last

-- the selectors of the sorted view of runs
pub record IsOrder (runs : List (List Pair)) (order : List ℕ) : Type 0 where
  pub versions : List Version
  pub view_of : IsSortedView runs versions
  pub told : order ≡ selectors_after None versions

-- the selector of a run with these marks
abbrev pub selector_by : ℕ → Bool → Bool → ℕ
selector_by run deletion old = run + (if deletion then 64 else 0) + (if old then 128 else 0)

abbrev pub deletion_at : Option Pair → Bool
deletion_at None = false
deletion_at (Some pair) = is_deletion pair.change
