-- What the code keeps of a world.
use Rattle.std.specs.Prelude.{ℕ, List}
use Rattle.worm_core.specs.Worlds.{World, leaves_of, all_anchored}
use Rattle.worm_core.specs.declared.state.State.{State}

-- the world that it stands for
abbrev pub world_of : State → World
world_of s = record { leaves = leaves_of s.leaves.items; splits = all_anchored s.splits.items; published = s.published; walkers = s.walkers.entries }
