-- What the bytes of a store's first strip reopen to.
use Rattle.std.specs.Prelude.{◌≡◌, ℕ, ◌≤◌, List, [], length}
use Rattle.rdb_base.specs.declared.row.Row.{Row}
use Rattle.rdb_base.specs.declared.entry.Entry.{Entry}
use Rattle.rdb_base.specs.Maps.{applied_all}
use Rattle.rdb_base.specs.Histories.{History, after, end}
use Rattle.wal_log.specs.Logs.{HasEntries}

-- These bytes reopen to a map with these rows, whose next update has this number: they are a log that begins in segment 0
-- with number 0, and its entries make that map.
pub record ReopensTo (rows : List Row) (number : ℕ) (bytes : List ℕ) : Type 0 where
  pub entries : List Entry
  pub has : HasEntries 0 0 entries bytes
  pub rows_are : rows ≡ applied_all [] entries
  pub number_is : number ≡ length entries

-- they reopen to some map
pub record Reopens (bytes : List ℕ) : Type 0 where
  pub rows : List Row
  pub number : ℕ
  pub to : ReopensTo rows number bytes

-- they reopen to the map after the first so many entries of this history, no fewer than these
pub record ReopensWithin (history : History) (least : ℕ) (bytes : List ℕ) : Type 0 where
  pub number : ℕ
  pub enough : least ≤ number
  pub within : number ≤ end history
  pub to : ReopensTo (after history number) number bytes

-- if the old bytes reopen to a map, these reopen to the same
abbrev pub ReopensAlike : List ℕ → List ℕ → Type 0
ReopensAlike old bytes = (rows : List Row) (number : ℕ) → ReopensTo rows number old → ReopensTo rows number bytes
