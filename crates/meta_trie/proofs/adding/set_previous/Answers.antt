use Rattle.std.proofs.Common.{get_or, refl}
use Rattle.std.proofs.Math.Seq.{map-set_same}
use Rattle.std.proofs.lemmas.List.{map-set}
use Rattle.meta_trie.specs.declared.leaf_entry.LeafEntry.{LeafEntry}
use Rattle.meta_trie.specs.Leaves.{anchored}
use Rattle.meta_trie.proofs.adding.set_previous.Goals as goal

pub returns-clause-all : goal.returns-clause-all
returns-clause-all c =
    let d = c.index-leaves-at.result in
    let was = get_or c.args.leaves.now c.args.at d in
    map-set_same anchored c.args.leaves.now c.args.at (record { anchor = was.anchor; leaf = was.leaf; previous = c.args.previous; next = was.next }) d refl

pub returns-clause-nexts : goal.returns-clause-nexts
returns-clause-nexts c =
    let d = c.index-leaves-at.result in
    let was = get_or c.args.leaves.now c.args.at d in
    map-set_same (λ (x : LeafEntry). x.next) c.args.leaves.now c.args.at (record { anchor = was.anchor; leaf = was.leaf; previous = c.args.previous; next = was.next }) d refl

pub returns-clause-previouses : goal.returns-clause-previouses
returns-clause-previouses c =
    let d = c.index-leaves-at.result in
    let was = get_or c.args.leaves.now c.args.at d in
    map-set (λ (x : LeafEntry). x.previous) c.args.leaves.now c.args.at (record { anchor = was.anchor; leaf = was.leaf; previous = c.args.previous; next = was.next })
