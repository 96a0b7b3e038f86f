-- A store's pass as contracts see it.
use Rattle.std.specs.Prelude.{List}
use Rattle.rdb_base.specs.declared.entry.Entry.{Entry}
use Rattle.wal_log.specs.SegmentState.{SegmentState}

-- its log, the entries that the opening found, and those since
pub record StoreState (S : Type 0) : Type 0 where
  pub log : SegmentState S
  pub opened : List Entry
  pub made : List Entry

abbrev pub state_of : {S : Type 0} → SegmentState S → List Entry → List Entry → StoreState S
state_of log opened made = record { log = log; opened = opened; made = made }
