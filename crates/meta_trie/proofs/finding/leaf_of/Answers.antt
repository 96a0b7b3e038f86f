use Rattle.std.proofs.Common.{sym, ◌∙◌}
use Rattle.meta_trie.specs.Leaves.{all_of}
use Rattle.meta_trie.proofs.FindLemmas.{pick-in, pick-leaf, cover-found}
use Rattle.meta_trie.proofs.finding.leaf_of.Goals as goal

pub bounds-leaves-at : goal.bounds-leaves-at
bounds-leaves-at g c = pick-in c.args.leaves.now c.holder-at.result c.holder-at.ensures.best.0 c.holder-at.ensures.best.1.pick

pub returns-clause-cover : goal.returns-clause-cover
returns-clause-cover g c =
    let best = c.holder-at.ensures.best in
    sym (pick-leaf c.args.leaves.now c.holder-at.result c.index-leaves-at.result best.0 best.1.pick)
    ∙ sym (cover-found (all_of c.args.leaves.now) c.args.key.now c.holder-at.result best.0 c.requires.root c.requires.stands.distinct best.1)
