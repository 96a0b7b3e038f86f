use Rattle.std.proofs.Common.{◌≡◌, ◌≤◌, ◌++◌, ◌+◌, vec_len, vec_capacity}
use Rattle.std.specs.Prelude.{reverse}
use Rattle.worm_leaf.proofs.moving.move_from.Given as goal

abbrev pub invariant-pairs : goal.invariant-pairs
invariant-pairs l =
    record {
      all : l.from.items ++ reverse l.to.items ≡ l.initial.from.items;
      at : l.at ≤ vec_len l.from;
      len : vec_len l.from + vec_len l.to ≡ vec_len l.initial.from;
      from_room : vec_capacity l.from ≡ vec_capacity l.initial.from;
      to_room : vec_capacity l.to ≡ vec_capacity l.initial.to;
    }

abbrev pub decreases-pairs : goal.decreases-pairs
decreases-pairs l = vec_len l.from
