use Rattle.std.proofs.Common.{◌≡◌, ◌∷◌, ◌++◌, [], ap, ◌∙◌, subst, set, arith}
use Rattle.worm_leaf.specs.Anchors.{PartsAt}
use Rattle.worm_leaf.specs.Leaves.{LeafState}
use Rattle.worm_leaf.specs.declared.limits.TheConstants.{LEAF_PAIRS_KEPT}
use Rattle.leaf_table.specs.Splits.{left_half, right_half}
use Rattle.leaf_table.specs.Tables.{leaf_at}
use Rattle.leaf_table.proofs.CallLemmas.{leaf-is}
use Rattle.leaf_table.proofs.SplitLemmas.{parting-same}
use Rattle.leaf_table.proofs.splitting.halve.Goals as goal

pub returns-clause-halves : goal.returns-clause-halves
returns-clause-halves c =
    let leaves = c.args.leaves.now.items in
    let place = c.args.place in
    let x = c.index_mut.result.now in
    let leaf : x ≡ leaf_at leaves place = leaf-is leaves place x (omega (arith, c.requires.within, c.args.leaves.now.ok.0)) c.index_mut.ensures.value in
    let parts : PartsAt (leaf_at leaves place).pairs LEAF_PAIRS_KEPT c.split_into.new.anchor = subst (λ (y : LeafState). PartsAt y.pairs LEAF_PAIRS_KEPT c.split_into.new.anchor) leaf c.split_into.ensures.anchor in
    let same : c.split_into.new.anchor ≡ c.args.anchor.now = parting-same (leaf_at leaves place).pairs c.split_into.new.anchor c.args.anchor.now c.requires.full parts c.requires.anchor in
    c.push_reserved.ensures.items
    ∙ ap (λ left. set leaves place left ++ c.split_into.new.right ∷ []) (c.split_into.ensures.left ∙ ap (λ y. left_half y c.split_into.new.anchor) leaf ∙ ap (left_half (leaf_at leaves place)) same)
    ∙ ap (λ right. set leaves place (left_half (leaf_at leaves place) c.args.anchor.now) ++ right ∷ []) (c.split_into.ensures.right ∙ ap (λ y. right_half y c.split_into.new.anchor) leaf ∙ ap (right_half (leaf_at leaves place)) same)
