-- What holds of every index: it is the only one of its runs, a walk of it gives the versions in order, and these are the level of the runs.
use Rattle.std.specs.Prelude.{◌≡◌, ℕ, List, Some, None, filter, drop, slice_get, not}
use Rattle.std.specs.Ordering.{is_lt}
use Rattle.rdb_base.specs.Order.{key_cmp}
use Rattle.rdb_base.specs.Runs.{change_at}
use Rattle.rdb_base.specs.Levels.{level_of}
use Rattle.rdb_base.specs.declared.pair.Pair.{Pair}
use Rattle.remix_view.specs.Views.{ViewState, IsFormed}
use Rattle.remix_view.specs.Spots.{spots_from}
use Rattle.remix_seek.specs.Versions.{Version, IsSortedView, IsPairOf, newest_of, key_before, change_there, spots_after}
use Rattle.remix_seek.specs.Indexes.{Indexes}
use Rattle.remix_seek.specs.Places.{IsFirstPlace, IsStanding, versions_before}

-- over the same runs there is only one index
abbrev pub OneIndex : Type 0
OneIndex = (runs : List (List Pair)) (view other : ViewState) (anchors others : List (List ℕ)) → Indexes runs view anchors → Indexes runs other others → (view ≡ other) × (anchors ≡ others)

-- the newest versions of a sorted view are the level of the runs
abbrev pub NewestIsLevel : Type 0
NewestIsLevel = (runs : List (List Pair)) (versions : List Version) → IsSortedView runs versions → newest_of None versions ≡ level_of runs

-- at the first place of a key stands the level's change at the key, or the level has none
abbrev pub SeekInLevel : Type 0
SeekInLevel = (runs : List (List Pair)) (view : ViewState) (anchors : List (List ℕ)) (index : Indexes runs view anchors) (key : List ℕ) (segment place : ℕ)
    → IsFirstPlace runs view key segment place
    → change_at (level_of runs) key ≡ change_there (slice_get index.versions (versions_before view segment place)) key

-- the newest versions from the first place of a key on are the level from the key on
abbrev pub ListedFrom : Type 0
ListedFrom = (runs : List (List Pair)) (view : ViewState) (anchors : List (List ℕ)) (index : Indexes runs view anchors) (key : List ℕ) (segment place : ℕ)
    → IsFirstPlace runs view key segment place
    → newest_of (key_before None index.versions (versions_before view segment place)) (drop (versions_before view segment place) index.versions) ≡ filter (λ pair. not (is_lt (key_cmp pair.key key))) (level_of runs)

-- a version of an index stands in a run that is there, after as many versions of the run as come before it, and is the run's pair there
abbrev pub VersionIsPair : Type 0
VersionIsPair = (runs : List (List Pair)) (view : ViewState) (anchors : List (List ℕ)) (index : Indexes runs view anchors) (n : ℕ) (v : Version)
    → slice_get index.versions n ≡ Some v
    → IsPairOf runs index.versions n v

-- a walk from a place that holds a version, or from the end place, gives the spots of the versions from there on
abbrev pub WalkInOrder : Type 0
WalkInOrder = (runs : List (List Pair)) (view : ViewState) (anchors : List (List ℕ)) → IsFormed view → (index : Indexes runs view anchors) (segment place : ℕ)
    → IsStanding view segment place
    → spots_from view segment place ≡ spots_after (key_before None index.versions (versions_before view segment place)) (drop (versions_before view segment place) index.versions)
