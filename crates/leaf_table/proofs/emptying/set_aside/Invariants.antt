use Rattle.std.proofs.Common.{◌≡◌, ◌≤◌, ◌<◌, ◌+◌, vec_len, vec_capacity}
use Rattle.std.specs.List.{AllByRecursion}
use Rattle.worm_leaf.specs.Leaves.{unused}
use Rattle.leaf_table.proofs.emptying.set_aside.Given as goal

abbrev pub invariant-loop-leaves : goal.invariant-loop-leaves
invariant-loop-leaves l =
    record {
      some : 0 < vec_len l.leaves;
      both : vec_len l.leaves + vec_len l.spare ≡ vec_len l.fn.leaves + vec_len l.fn.spare;
      fresh : AllByRecursion (λ leaf. leaf ≡ unused) l.spare.items;
      leaves : vec_capacity l.leaves ≡ vec_capacity l.fn.leaves;
      spare : vec_capacity l.fn.spare ≤ vec_capacity l.spare;
    }

abbrev pub decreases-loop-leaves : goal.decreases-loop-leaves
decreases-loop-leaves l = vec_len l.leaves
