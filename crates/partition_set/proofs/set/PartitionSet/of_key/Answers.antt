use Rattle.std.proofs.Common.{◌-◌, length, arith, subst, ◌∙◌}
use Rattle.rdb_base.specs.Halvings.{IsTurn}
use Rattle.partition_set.specs.Partitions.{IsSet}
use Rattle.partition_set.specs.Bounds.{passes_at}
use Rattle.partition_set.proofs.SetLemmas.{part-of_turn}
use Rattle.partition_set.proofs.set.PartitionSet.of_key.Goals as goal

pub returns-clause-part : goal.returns-clause-part
returns-clause-part g c =
    part-of_turn g.T.Runs.run c.args.self.now c.args.key.now c.bounds_passed.result (c.bounds_passed.result - 1)
    (subst (λ ps. IsTurn (passes_at ps c.args.key.now) (length ps) c.bounds_passed.result) (c.as_slice.ensures.value ∙ c.self.view_is) c.bounds_passed.ensures.turn) (omega (arith, c.bounds_passed.ensures.some))

pub returns-clause-set : goal.returns-clause-set
returns-clause-set g c = subst (λ ps. IsSet g.T.Runs.run ps) c.self.view_is c.self.invariant
