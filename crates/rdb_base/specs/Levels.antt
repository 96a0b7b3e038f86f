-- Newer pairs over older ones, and the rows that are left.
use Rattle.std.specs.Prelude.{ℕ, List, [], ◌∷◌, ◌++◌, filter, Option, Some, None}
use Rattle.std.specs.Ordering.{is_lt, is_gt}
use Rattle.rdb_base.specs.Order.{key_cmp}
use Rattle.rdb_base.specs.Runs.{change_at}
use Rattle.rdb_base.specs.declared.row.Row.{Row}
use Rattle.rdb_base.specs.declared.entry.Entry.{Entry}
use Rattle.rdb_base.specs.declared.change.Change.{Change}
use Rattle.rdb_base.specs.declared.change.Change.TheVariants.{Put, Del}
use Rattle.rdb_base.specs.declared.pair.Pair.{Pair}

-- the pairs whose key is below this one
abbrev pub pairs_below : List ℕ → List Pair → List Pair
pairs_below key pairs = filter (λ pair. is_lt (key_cmp pair.key key)) pairs

-- the pairs whose key is above this one
abbrev pub pairs_above : List ℕ → List Pair → List Pair
pairs_above key pairs = filter (λ pair. is_gt (key_cmp pair.key key)) pairs

-- the pairs with this one in its key's place
abbrev pub with_pair : List Pair → Pair → List Pair
with_pair pairs pair = pairs_below pair.key pairs ++ pair ∷ pairs_above pair.key pairs

-- newer pairs over older ones: at each key the newer one's change, where it has the key
abbrev pub over : List Pair → List Pair → List Pair
over [] older = older
over (pair ∷ newer) older = with_pair (over newer older) pair

-- the level of several runs, the newest first: one run, deletions kept
abbrev pub level_of : List (List Pair) → List Pair
level_of [] = []
level_of (run ∷ runs) = over run (level_of runs)

-- the first change that is there
abbrev pub or_change : Option Change → Option Change → Option Change
or_change None other = other
or_change (Some change) other = Some change

-- the change at a key of the newest run that has the key
abbrev pub newest_change : List (List Pair) → List ℕ → Option Change
newest_change [] key = None
newest_change (run ∷ runs) key = or_change (change_at run key) (newest_change runs key)

-- these rows, and at a put its row before them
abbrev pub row_before : List ℕ → Change → List Row → List Row
row_before key (Put value) rows = record { key = key; value = value } ∷ rows
row_before key Del rows = rows

-- the rows of a run, without its deletions
abbrev pub live : List Pair → List Row
live [] = []
live (pair ∷ pairs) = row_before pair.key pair.change (live pairs)

-- the rows of several runs, the newest first
abbrev pub merged : List (List Pair) → List Row
merged runs = live (level_of runs)

-- an entry's pair
abbrev pub pair_of : Entry → Pair
pair_of entry = record { key = entry.key; change = entry.change }

-- the newest change of each key, of these pairs and then of these entries
abbrev pub newest : List Pair → List Entry → List Pair
newest pairs [] = pairs
newest pairs (entry ∷ entries) = newest (with_pair pairs (pair_of entry)) entries
