use Rattle.std.proofs.Common.{◌≡◌, ◌++◌, length}
use Rattle.wal_log.proofs.told.told_entries.Given as goal

abbrev pub invariant-loop-entry : goal.invariant-loop-entry
invariant-loop-entry l = record {
  so_far : l.entries ≡ l.told ++ l.rest;
}

abbrev pub decreases-loop-entry : goal.decreases-loop-entry
decreases-loop-entry l = length l.rest
