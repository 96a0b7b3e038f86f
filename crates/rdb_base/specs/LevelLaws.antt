-- What holds of every run, of newer pairs over older ones and of their rows.
use Rattle.std.specs.Prelude.{◌≡◌, ℕ, List, [], ◌∷◌, Option, Some, None}
use Rattle.std.specs.declared.cmp.Ordering.TheVariants.{Less, Equal, Greater}
use Rattle.rdb_base.specs.Order.{key_cmp}
use Rattle.rdb_base.specs.Maps.{IsRising, value_at, applied_all}
use Rattle.rdb_base.specs.Laws.{left_by}
use Rattle.rdb_base.specs.Runs.{IsRun, change_at}
use Rattle.rdb_base.specs.Levels.{over, level_of, newest_change, live, newest}
use Rattle.rdb_base.specs.Pages.{pairs_from, rows_from}
use Rattle.rdb_base.specs.declared.entry.Entry.{Entry}
use Rattle.rdb_base.specs.declared.change.Change.{Change}
use Rattle.rdb_base.specs.declared.pair.Pair.{Pair}

-- the level's change at a key is that of the newest run that has the key
abbrev pub NewestRunDecides : Type 0
NewestRunDecides = (runs : List (List Pair)) (key : List ℕ) → change_at (level_of runs) key ≡ newest_change runs key

-- the level of runs is a run
abbrev pub LevelIsRun : Type 0
LevelIsRun = (runs : List (List Pair)) → IsRun (level_of runs)

-- two runs with the same change at each key are one
abbrev pub SameChangesSameRun : Type 0
SameChangesSameRun = (xs ys : List Pair) → IsRun xs → IsRun ys → ((key : List ℕ) → change_at xs key ≡ change_at ys key) → xs ≡ ys

-- the value that a change leaves, where there is a change
abbrev pub value_of : Option Change → Option (List ℕ)
value_of None = None
value_of (Some change) = left_by change

-- the rows of a run are a map
abbrev pub RowsAreMap : Type 0
RowsAreMap = (run : List Pair) → IsRun run → IsRising (live run)

-- at each key they have what the run's change leaves there
abbrev pub RowsHaveChanges : Type 0
RowsHaveChanges = (run : List Pair) (key : List ℕ) → IsRun run → value_at (live run) key ≡ value_of (change_at run key)

-- the rows from a bound on are the rows of the pairs from it on
abbrev pub RowsFromBound : Type 0
RowsFromBound = (run : List Pair) (bound : List ℕ) → rows_from (live run) bound ≡ live (pairs_from run bound)

-- the rows of the newest changes of entries over a base are the base's rows after the entries
abbrev pub RowsAfterEntries : Type 0
RowsAfterEntries = (newer base : List Pair) (entries : List Entry) → IsRun base
    → live (over (newest newer entries) base) ≡ applied_all (live (over newer base)) entries

-- two runs merged from the front: the newer one's first key is the lower
abbrev pub MergeTakesNewer : Type 0
MergeTakesNewer = (p q : Pair) (ps qs : List Pair) → IsRun (p ∷ ps) → IsRun (q ∷ qs) → key_cmp p.key q.key ≡ Less
    → over (p ∷ ps) (q ∷ qs) ≡ p ∷ over ps (q ∷ qs)

-- both have the first key: the newer one's pair stays
abbrev pub MergeTakesOne : Type 0
MergeTakesOne = (p q : Pair) (ps qs : List Pair) → IsRun (p ∷ ps) → IsRun (q ∷ qs) → key_cmp p.key q.key ≡ Equal
    → over (p ∷ ps) (q ∷ qs) ≡ p ∷ over ps qs

-- the older one's first key is the lower
abbrev pub MergeTakesOlder : Type 0
MergeTakesOlder = (p q : Pair) (ps qs : List Pair) → IsRun (p ∷ ps) → IsRun (q ∷ qs) → key_cmp p.key q.key ≡ Greater
    → over (p ∷ ps) (q ∷ qs) ≡ q ∷ over (p ∷ ps) qs

-- nothing older is left
abbrev pub MergeEnds : Type 0
MergeEnds = (ps : List Pair) → IsRun ps → over ps [] ≡ ps
