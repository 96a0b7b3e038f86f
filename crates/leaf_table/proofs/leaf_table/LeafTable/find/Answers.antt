use Rattle.std.proofs.Common.{◌≡◌, List, ap, ◌∙◌, arith}
use Rattle.worm_leaf.specs.Leaves.{LeafState}
use Rattle.meta_trie.specs.Tries.{cover}
use Rattle.rdb_base.specs.Runs.{change_at}
use Rattle.leaf_table.specs.Chains.{pairs_of}
use Rattle.leaf_table.specs.Tables.{Covers, leaf_at}
use Rattle.leaf_table.proofs.CallLemmas.{covers-cover, found, leaf-is}
use Rattle.leaf_table.proofs.leaf_table.LeafTable.find.Goals as goal

pub index-requires : goal.index-requires
index-requires g c =
    let leaves = c.self.inside.leaves.items in
    let k : Covers leaves c.self.inside.order.items c.args.key.now c.number_of-number.result = covers-cover leaves c.self.inside.order.items c.self.inside.trie.added c.self.invariant.0 c.args.key.now c.number_of-number.result c.number_of-number.ensures.cover in
    omega (arith, k.2, c.self.inside.leaves.ok.0)

pub returns-clause-change : goal.returns-clause-change
returns-clause-change g c =
    let leaves = c.self.inside.leaves.items in
    let order = c.self.inside.order.items in
    let key = c.args.key.now in
    let number = c.number_of-number.result in
    let k : Covers leaves order key number = covers-cover leaves order c.self.inside.trie.added c.self.invariant.0 key number c.number_of-number.ensures.cover in
    let leaf : c.index.result.now ≡ leaf_at leaves number = leaf-is leaves number c.index.result.now k.2 c.index.ensures in
    c.find.ensures
    ∙ ap (λ (seen : LeafState). change_at seen.pairs key) leaf
    ∙ found leaves order key number k
    ∙ ap (λ (chain : List LeafState). change_at (pairs_of chain) key) c.self.view_is
