-- What a store's pass keeps.
use Rattle.std.specs.Prelude.{◌≡◌, ℕ, ◌+◌, ◌≤◌, List, [], ◌++◌, length, true}
use Rattle.std.specs.List.{AllByRecursion}
use Rattle.rdb_base.specs.declared.row.Row.{Row}
use Rattle.rdb_base.specs.declared.entry.Entry.{Entry}
use Rattle.rdb_base.specs.declared.limits.TheConstants.{NUMBER_MAX}
use Rattle.rdb_base.specs.Maps.{applied_all}
use Rattle.disk_model.specs.declared.strip.Strip.{Ghosts}
use Rattle.wal_log.specs.SegmentState.{SegmentState}

pub record IsStore {S : Type 0} (strip : Ghosts S) (log : SegmentState S) (rows : List Row) (begun : ℕ) (opened made : List Entry) : Type 0 where
  -- the log is on the first strip, it begins in segment 0 with number 0, and its header stands
  pub device : (strip.book log.journal.strip).device ≡ 0
  pub number : log.number ≡ 0
  pub first : log.first ≡ 0
  pub headed : log.headed ≡ true
  -- it has the entries that the opening found and those since; all of them have numbers, and the old ones are synced
  pub entries : log.entries ≡ opened ++ made
  pub begins : begun ≡ length opened
  pub found : length opened ≤ length log.synced
  pub most : length opened + length made ≤ NUMBER_MAX
  -- the map is the one after all entries
  pub rows_are : rows ≡ applied_all [] log.entries
  -- the entries since are the one caller's
  pub own : AllByRecursion (λ entry. entry.caller ≡ 0) made
