use Rattle.std.proofs.Common.{◌≡◌, true, List, length, ap, ◌∙◌, subst}
use Rattle.std.specs.declared.cmp.Ordering.TheVariants.{Less}
use Rattle.rdb_base.specs.Order.{key_cmp}
use Rattle.rdb_base.specs.declared.pair.Pair.{Pair}
use Rattle.worm_leaf.specs.Anchors.{PartsAt}
use Rattle.worm_leaf.specs.Leaves.{LeafState, covers}
use Rattle.worm_leaf.proofs.LeafLemmas.{split-inside}
use Rattle.worm_leaf.proofs.leaf.Leaf.split_anchor.Goals as goal

pub returns-clause-anchor : goal.returns-clause-anchor
returns-clause-anchor c =
    let anchor = c.part_at.new.anchor in
    subst (λ (run : List Pair). PartsAt run 32 anchor) (c.as_slice.ensures.value ∙ ap (λ (leaf : LeafState). leaf.pairs) c.self.view_is) c.part_at.ensures

pub returns-clause-inside : goal.returns-clause-inside
returns-clause-inside c =
    let anchor = c.part_at.new.anchor in
    subst (λ (seen : LeafState). (key_cmp seen.low anchor ≡ Less) × (covers seen anchor ≡ true)) c.self.view_is
    (split-inside _ anchor c.self.invariant.0 (ap (λ (seen : LeafState). length seen.pairs) c.self.view_is ∙ c.requires.full)
    (subst (λ (run : List Pair). PartsAt run 32 anchor) c.as_slice.ensures.value c.part_at.ensures))
