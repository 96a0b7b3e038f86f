use Rattle.worm_core.proofs.StateLemmas.{reached-after}
use Rattle.worm_core.proofs.leaf_world.LeafWorld.happen.Goals as goal

pub invariant_of-self : goal.invariant_of-self
invariant_of-self c = reached-after c.happen.result _ _ c.args.event c.self.invariant c.happen.ensures.step c.happen.ensures.same
