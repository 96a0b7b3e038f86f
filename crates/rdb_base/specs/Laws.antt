-- What holds of every map and of every history.
use Rattle.std.specs.Prelude.{◌≡◌, ◌≢◌, ℕ, ◌+◌, ◌≤◌, List, ◌++◌, Option, Some, None}
use Rattle.std.specs.declared.cmp.Ordering.TheVariants.{Equal}
use Rattle.rdb_base.specs.Order.{key_cmp}
use Rattle.rdb_base.specs.Maps.{IsRising, value_at, applied}
use Rattle.rdb_base.specs.Histories.{History, IsEntry, after, end}
use Rattle.rdb_base.specs.declared.row.Row.{Row}
use Rattle.rdb_base.specs.declared.change.Change.{Change}
use Rattle.rdb_base.specs.declared.change.Change.TheVariants.{Put, Del}
use Rattle.rdb_base.specs.declared.entry.Entry.{Entry}

-- keys that compare alike are one key
abbrev pub EqualIsSame : Type 0
EqualIsSame = (a b : List ℕ) → key_cmp a b ≡ Equal → a ≡ b

-- a key compares alike with itself
abbrev pub SameIsEqual : Type 0
SameIsEqual = (a : List ℕ) → key_cmp a a ≡ Equal

-- a map stays a map
abbrev pub KeepsRising : Type 0
KeepsRising = (rows : List Row) (entry : Entry) → IsRising rows → IsRising (applied rows entry)

-- what a change leaves at its key
abbrev pub left_by : Change → Option (List ℕ)
left_by (Put value) = Some value
left_by Del = None

-- at its key a map has what the change left there
abbrev pub HasChange : Type 0
HasChange = (rows : List Row) (entry : Entry) → value_at (applied rows entry) entry.key ≡ left_by entry.change

-- at every other key it has what it had
abbrev pub KeepsOthers : Type 0
KeepsOthers = (rows : List Row) (entry : Entry) (key : List ℕ) → key ≢ entry.key → value_at (applied rows entry) key ≡ value_at rows key

-- the map after one number more is the map after that number's entry
abbrev pub GoesOn : Type 0
GoesOn = (history : History) (number : ℕ) (entry : Entry) → IsEntry history number entry → after history (number + 1) ≡ applied (after history number) entry

-- a history begins with its base
abbrev pub BeginsWithBase : Type 0
BeginsWithBase = (history : History) → after history history.first ≡ history.base

-- what is added at its end changes no earlier map
abbrev pub KeepsPast : Type 0
KeepsPast = (history : History) (more : List Entry) (number : ℕ) → number ≤ end history → after (record { base = history.base; first = history.first; entries = history.entries ++ more }) number ≡ after history number
