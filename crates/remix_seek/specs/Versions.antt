-- The sorted view of runs: all their pairs in one list, by key and then by run, the newest first.
use Rattle.std.specs.Prelude.{◌≡◌, ℕ, zero, suc, ◌+◌, ◌<◌, nat_lt, length, take, slice_get, filter, Bool, false, true, ◌==◌, List, [], ◌∷◌, Option, Some, None, if◌then◌else◌}
use Rattle.std.specs.List.{AllByRecursion, count_by}
use Rattle.std.specs.Ordering.{is_eq}
use Rattle.std.specs.declared.cmp.Ordering.{Ordering}
use Rattle.std.specs.declared.cmp.Ordering.TheVariants.{Less, Equal, Greater}
use Rattle.rdb_base.specs.Order.{key_cmp}
use Rattle.rdb_base.specs.declared.change.Change.{Change}
use Rattle.rdb_base.specs.declared.change.Change.TheVariants.{Put, Del}
use Rattle.rdb_base.specs.declared.pair.Pair.{Pair}
use Rattle.remix_view.specs.declared.spot.Spot.{Spot}

-- a version of a key: a pair of a run, and where it stands there
pub record Version : Type 0 where
  pub run : ℕ
  pub place : ℕ
  pub pair : Pair

-- the versions of one run, the first of which stands at this place
abbrev pub versions_in : ℕ → ℕ → List Pair → List Version
versions_in run place [] = []
versions_in run place (pair ∷ pairs) = record { run = run; place = place; pair = pair } ∷ versions_in run (place + 1) pairs

-- the run of a number, empty where there is none
abbrev pub run_at : List (List Pair) → ℕ → List Pair
run_at [] number = []
run_at (run ∷ runs) zero = run
run_at (run ∷ runs) (suc number) = run_at runs number

-- by key, and at one key by run
abbrev pub before_by : Ordering → ℕ → ℕ → Bool
before_by Less run other = true
before_by Equal run other = nat_lt run other
before_by Greater run other = false

abbrev pub is_before : Version → Version → Bool
is_before v w = before_by (key_cmp v.pair.key w.pair.key) v.run w.run

-- each version is before all that follow
abbrev pub AreSorted : List Version → Type 0
AreSorted [] = Unit {0}
AreSorted (v ∷ vs) = AllByRecursion (λ w. is_before v w ≡ true) vs × AreSorted vs

-- the sorted view of runs: of each run just its pairs, in order
pub record IsSortedView (runs : List (List Pair)) (versions : List Version) : Type 0 where
  pub sorted : AreSorted versions
  pub all : (run : ℕ) → filter (λ v. v.run == run) versions ≡ versions_in run 0 (run_at runs run)

-- a version at a place of a list is the pair of its run, at the place of as many versions of the run as come before it
pub record IsPairOf (runs : List (List Pair)) (versions : List Version) (n : ℕ) (v : Version) : Type 0 where
  pub run : v.run < length runs
  pub place : v.place ≡ count_by (λ other. other.run == v.run) (take n versions)
  pub pair : slice_get (run_at runs v.run) v.place ≡ Some v.pair

abbrev pub is_deletion : Change → Bool
is_deletion (Put value) = false
is_deletion Del = true

-- whether there is a key, and it is this one
abbrev pub has_key : Option (List ℕ) → List ℕ → Bool
has_key None key = false
has_key (Some other) key = is_eq (key_cmp other key)

-- the selector of a version after one with this key: its run, the bit of a deletion, and the bit of an older version
abbrev pub selector_of : Option (List ℕ) → Version → ℕ
selector_of last v = v.run + (if is_deletion v.pair.change then 64 else 0) + (if has_key last v.pair.key then 128 else 0)

-- the selectors of versions after one with this key
abbrev pub selectors_after : Option (List ℕ) → List Version → List ℕ
selectors_after last [] = []
selectors_after last (v ∷ vs) = selector_of last v ∷ selectors_after (Some v.pair.key) vs

-- the spots of versions after one with this key
abbrev pub spots_after : Option (List ℕ) → List Version → List Spot
spots_after last [] = []
spots_after last (v ∷ vs) = record { run = v.run; place = v.place; old = has_key last v.pair.key; del = is_deletion v.pair.change } ∷ spots_after (Some v.pair.key) vs

-- the pairs of the newest versions, of versions after one with this key
abbrev pub newest_of : Option (List ℕ) → List Version → List Pair
newest_of last [] = []
newest_of last (v ∷ vs) = if has_key last v.pair.key then newest_of (Some v.pair.key) vs else v.pair ∷ newest_of (Some v.pair.key) vs

-- the key of the version before a place, of versions after one with this key
abbrev pub key_before : Option (List ℕ) → List Version → ℕ → Option (List ℕ)
key_before last vs zero = last
key_before last [] (suc i) = last
key_before last (v ∷ vs) (suc i) = key_before (Some v.pair.key) vs i

-- the change of a version, where it has the key
abbrev pub change_there : Option Version → List ℕ → Option Change
change_there None key = None
change_there (Some v) key = if is_eq (key_cmp v.pair.key key) then Some v.pair.change else None
