use Rattle.std.proofs.Common.{◌≡◌, ◌++◌, ◌+◌, ◌≤◌, vec_len, vec_capacity}
use Rattle.std.specs.VecDeque.{deque_len}
use Rattle.rdb_base.specs.Levels.{over}
use Rattle.memory_rows.specs.Merges.{AreRuns}
use Rattle.memory_rows.proofs.merging.merge_into.Given as goal

abbrev pub invariant-pairs : goal.invariant-pairs
invariant-pairs l =
    record {
      all : l.merged.items ++ over l.newer.items l.older.items ≡ l.initial.merged.items ++ over l.initial.newer.items l.initial.older.items;
      runs : AreRuns l.newer.items l.older.items;
      room : vec_len l.merged + (deque_len l.newer + deque_len l.older) ≤ vec_capacity l.merged;
    }

abbrev pub decreases-pairs : goal.decreases-pairs
decreases-pairs l = deque_len l.newer + deque_len l.older
