use Rattle.std.proofs.Common.{◌++◌, ◌∷◌, [], List, map, ap, subst, ◌∙◌}
use Rattle.rdb_base.specs.declared.pair.Pair.{Pair}
use Rattle.remix_seek.specs.Indexes.{Indexes}
use Rattle.partition_set.specs.Partitions.{PartState}
use Rattle.partition_set.proofs.OneSetLemmas.{one-set}
use Rattle.partition_set.proofs.tests.one_partition.Goals as goal

pub make-requires : goal.make-requires
make-requires g c =
    let part : PartState (List Pair) = record { low = c.new-low.result.items; base = 7; runs = c.args.runs.items; view = c.in_ok-remix.remix.view; anchors = c.in_ok-remix.remix.anchors } in
    one-set {T = List Pair} (λ (r : List Pair). r) part c.push.new.self.items (c.in_ok-push.ensures.items ∙ ap (λ (parts : List (PartState (List Pair))). parts ++ part ∷ []) c.new-parts.ensures.items) c.new-low.ensures.items c.requires
    (subst (λ (runs : List (List Pair)). Indexes (map (λ (r : List Pair). r) runs) c.in_ok-remix.remix.view c.in_ok-remix.remix.anchors) c.as_slice.ensures.value c.in_ok-remix.ensures.index)
