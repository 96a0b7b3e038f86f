use Rattle.std.proofs.Common.{[]}
use Rattle.worm_core.specs.Worlds.{leaves_of, all_anchored}
use Rattle.worm_core.proofs.leaf_world.LeafWorld.new.Goals as goal

pub invariant_of-result : goal.invariant_of-result
invariant_of-result c = ([], [], λ i. record { leaves = leaves_of (c.new.ensures.items i); splits = all_anchored (c.new-2.ensures.items i); published = 0; walkers = c.new-3.ensures.empty i })
