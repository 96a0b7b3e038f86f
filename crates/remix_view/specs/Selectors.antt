-- What the bits of a selector mean: a run in the low six, then the mark of a deletion, then that of an older version.
use Rattle.std.specs.Prelude.{ℕ, ◌%◌, ◌<◌, ◌≢◌, Bool, ◌==◌, nat_le, List}
use Rattle.std.specs.List.{count_by}
use Rattle.remix_view.specs.declared.selector.TheConstants.{FILLER}

-- no version takes the place
abbrev pub is_filler : ℕ → Bool
is_filler selector = selector == FILLER

-- the run that a selector names, 0 the newest
abbrev pub run_in : ℕ → ℕ
run_in selector = selector % 64

-- the change is a deletion
abbrev pub del_in : ℕ → Bool
del_in selector = nat_le 64 (selector % 128)

-- the key before it is the same
abbrev pub old_in : ℕ → Bool
old_in selector = nat_le 128 selector

-- a filler, or a selector of one of so many runs
abbrev pub IsSelector : ℕ → ℕ → Type 0
IsSelector runs selector = selector ≢ FILLER → run_in selector < runs

-- how many of these selectors name this run
abbrev pub rank_in : ℕ → List ℕ → ℕ
rank_in run selectors = count_by (λ selector. run_in selector == run) selectors
