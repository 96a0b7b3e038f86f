use Rattle.std.proofs.Common.{◌++◌, ◌∷◌, [], List, ap, ◌∙◌}
use Rattle.rdb_base.specs.declared.pair.Pair.{Pair}
use Rattle.partition_set.specs.Partitions.{PartState}
use Rattle.partition_set.proofs.SeveralLemmas.{three-set}
use Rattle.partition_set.proofs.tests.several.set_of_three.Goals as goal

pub make-requires : goal.make-requires
make-requires c =
    three-set {T = List Pair} (λ (r : List Pair). r) c.args.first c.args.second c.args.third c.push-3.new.self.items c.args.last.now
    (c.in_ok-push-3.ensures.items ∙ ap (λ (parts : List (PartState (List Pair))). parts ++ c.args.third ∷ [])
    (c.in_ok-push-2.ensures.items ∙ ap (λ (parts : List (PartState (List Pair))). parts ++ c.args.second ∷ [])
    (c.in_ok-push.ensures.items ∙ ap (λ (parts : List (PartState (List Pair))). parts ++ c.args.first ∷ []) c.new-parts.ensures.items)))
    c.requires.first c.requires.second c.requires.third c.requires.low c.requires.rise c.requires.rise_again
