-- The heads of runs: of each the key at its place, lent. The least of them comes first, and of equal ones that of the newest run.
use Rattle.std.specs.Prelude.{◌≡◌, ◌≢◌, ℕ, ◌<◌, true, List, length, get_or, slice_index, slice_get, Option, Some, None}
use denote.Ref.{Bor}
use Rattle.rdb_base.specs.Order.{key_cmp}
use Rattle.rdb_base.specs.declared.pair.Pair.{Pair}
use Rattle.remix_seek.specs.Versions.{run_at, before_by}

-- a key that is lent, where there is one
abbrev pub lent_key : Option (Bor (List ℕ)) → Option (List ℕ)
lent_key None = None
lent_key (Some lent) = Some lent.now

-- the head of a run, where it has one
abbrev pub head_of_run : List (Option (Bor (List ℕ))) → ℕ → Option (List ℕ)
head_of_run heads run = lent_key (get_or heads run None)

-- the key of a pair, where there is one
abbrev pub key_of : Option Pair → Option (List ℕ)
key_of None = None
key_of (Some pair) = Some pair.key

-- of each run the key at its place
pub record AreHeads (runs : List (List Pair)) (places : List ℕ) (heads : List (Option (Bor (List ℕ)))) : Type 0 where
  pub long : length heads ≡ length runs
  pub told : (run : ℕ) → run < length runs → head_of_run heads run ≡ key_of (slice_get (run_at runs run) (slice_index places run))

-- of each run the first key
pub record AreFirst (runs : List (List Pair)) (heads : List (Option (Bor (List ℕ)))) : Type 0 where
  pub long : length heads ≡ length runs
  pub told : (run : ℕ) → run < length runs → head_of_run heads run ≡ key_of (slice_get (run_at runs run) 0)

-- the run whose head comes first, of the first so many
pub record IsLeastHead (heads : List (Option (Bor (List ℕ)))) (n run : ℕ) (key : List ℕ) : Type 0 where
  pub low : run < n
  pub head : head_of_run heads run ≡ Some key
  pub least : (other : ℕ) (o : List ℕ) → other < n → other ≢ run → head_of_run heads other ≡ Some o → before_by (key_cmp key o) run other ≡ true

abbrev pub LeastHead : List (Option (Bor (List ℕ))) → ℕ → Option (ℕ × Bor (List ℕ)) → Type 0
LeastHead heads n None = (run : ℕ) → run < n → head_of_run heads run ≡ None
LeastHead heads n (Some (run, lent)) = IsLeastHead heads n run lent.now
