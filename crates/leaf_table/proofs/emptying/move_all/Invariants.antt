use Rattle.std.proofs.Common.{◌≡◌, ◌≤◌, ◌++◌, length, take, drop, vec_capacity}
use Rattle.leaf_table.specs.Chains.{pairs_of}
use Rattle.leaf_table.specs.Tables.{chain_of}
use Rattle.leaf_table.proofs.emptying.move_all.Given as goal

abbrev pub invariant-loop-i : goal.invariant-loop-i
invariant-loop-i l =
    record {
      moved : l.run.items ≡ l.fn.run.items ++ pairs_of (chain_of l.fn.leaves (take l.i l.order));
      ahead : chain_of l.leaves (drop l.i l.order) ≡ chain_of l.fn.leaves (drop l.i l.order);
      len : length l.leaves ≡ length l.fn.leaves;
      room : vec_capacity l.fn.run ≤ vec_capacity l.run;
    }
