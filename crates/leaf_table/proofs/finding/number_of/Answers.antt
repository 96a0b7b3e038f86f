use Rattle.std.proofs.Common.{◌≡◌, sym, ap, ◌∙◌}
use Rattle.worm_leaf.specs.Leaves.{LeafState, covers}
use Rattle.leaf_table.specs.Tables.{leaf_at}
use Rattle.leaf_table.proofs.CallLemmas.{cover-covers, leaf-is}
use Rattle.leaf_table.proofs.finding.number_of.Goals as goal

pub returns-then-covers-clause-cover : goal.returns-then-covers-clause-cover
returns-then-covers-clause-cover g c =
    let leaves = c.args.leaves.now in
    let recent = c.args.recent in
    let leaf : c.index-leaves-recent.result ≡ leaf_at leaves recent = leaf-is leaves recent c.index-leaves-recent.result c.requires.recent c.index-leaves-recent.is in
    cover-covers leaves c.requires.table.0 c.args.trie.now.added c.requires.table.1 c.args.key.now recent c.requires.recent
    (sym (ap (λ (x : LeafState). covers x c.args.key.now) leaf) ∙ sym c.covers.ensures.answer ∙ c.if-covers.true)
