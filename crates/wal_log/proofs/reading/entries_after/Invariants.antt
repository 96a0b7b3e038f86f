use Rattle.std.proofs.Common.{◌+◌, ◌≤◌, ◌≡◌, length}
use Rattle.rdb_base.specs.declared.limits.TheConstants.{NUMBER_MAX}
use Rattle.wal_log.specs.Logs.{joined, entries_in}
use Rattle.wal_log.proofs.reading.entries_after.Given as goal

abbrev pub invariant-loop-frame : goal.invariant-loop-frame
invariant-loop-frame l = record {
  so_far : entries_in l.strip l.from l.frames ≡ joined l.entries.items (entries_in l.strip l.end l.rest);
  ends : l.end ≡ l.from + length l.entries.items;
  most : l.end ≤ NUMBER_MAX;
}

abbrev pub decreases-loop-frame : goal.decreases-loop-frame
decreases-loop-frame l = length l.rest
