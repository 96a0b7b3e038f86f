use Rattle.std.proofs.Common.{◌≡◌, ◌++◌, drop, length, vec_capacity}
use Rattle.partition_plan.specs.Plans.{planned}
use Rattle.partition_plan.proofs.planning.plan.Given as goal

-- the decisions so far and those of the members that are left are all of them, and there is room
abbrev pub invariant-members : goal.invariant-members
invariant-members l = record {
  all : l.into.items ++ planned l.may_abort l.so_far.kept l.so_far.count (drop l.size-index l.sizes) ≡ planned l.may_abort 0 l.partitions l.sizes;
  one_each : length l.into.items ≡ l.size-index;
  capacity : vec_capacity l.into ≡ vec_capacity l.initial.into;
}
