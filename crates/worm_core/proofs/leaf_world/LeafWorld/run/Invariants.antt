use Rattle.std.proofs.Common.{◌≡◌, length, vec_len, vec_capacity, ◌≤◌}
use Rattle.worm_core.specs.Events.{RunsTo}
use Rattle.worm_core.proofs.leaf_world.LeafWorld.run.Given as goal

abbrev pub invariant-events : goal.invariant-events
invariant-events l = record {
  number : l.number ≡ length l.yielded;
  count : vec_len l.answers ≡ length l.yielded;
  room : length l.fn.events.items ≤ vec_capacity l.answers;
  runs : RunsTo l.initial.self l.yielded l.answers.items l.self;
}
