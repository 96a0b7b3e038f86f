use Rattle.std.proofs.Common.{◌≡◌, List, sym, subst, arith}
use Rattle.worm_leaf.specs.Leaves.{LeafState}
use Rattle.leaf_table.specs.Chains.{HasRoom, HasRoomAt}
use Rattle.leaf_table.specs.Tables.{Covers, leaf_at}
use Rattle.leaf_table.proofs.CallLemmas.{covers-cover, leaf-is, room-at, room-of}
use Rattle.leaf_table.proofs.leaf_table.LeafTable.has_room.Goals as goal

pub index-requires : goal.index-requires
index-requires g c =
    let leaves = c.self.inside.leaves.items in
    let k : Covers leaves c.self.inside.order.items c.args.key.now c.number_of-number.result = covers-cover leaves c.self.inside.order.items c.self.inside.trie.added c.self.invariant.0 c.args.key.now c.number_of-number.result c.number_of-number.ensures.cover in
    omega (arith, k.2, c.self.inside.leaves.ok.0)

pub invariant_of-self : goal.invariant_of-self
invariant_of-self g c =
    let leaves = c.self.inside.leaves.items in
    let k : Covers leaves c.self.inside.order.items c.args.key.now c.number_of-number.result = covers-cover leaves c.self.inside.order.items c.self.inside.trie.added c.self.invariant.0 c.args.key.now c.number_of-number.result c.number_of-number.ensures.cover in
    (c.self.invariant.0, c.self.invariant.1, c.self.invariant.2, k.2)

pub returns-clause-answer : goal.returns-clause-answer
returns-clause-answer g c =
    let leaves = c.self.inside.leaves.items in
    let order = c.self.inside.order.items in
    let key = c.args.key.now in
    let number = c.number_of-number.result in
    let k : Covers leaves order key number = covers-cover leaves order c.self.inside.trie.added c.self.invariant.0 key number c.number_of-number.ensures.cover in
    let leaf : c.index.result.now ≡ leaf_at leaves number = leaf-is leaves number c.index.result.now k.2 c.index.ensures in (
      (λ yes. subst (λ (chain : List LeafState). HasRoomAt chain key) c.self.view_is (room-at leaves order key number k (subst (λ (x : LeafState). HasRoom x key) leaf (c.has_room_in.ensures.0 yes)))),
      (λ room. c.has_room_in.ensures.1 (subst (λ (x : LeafState). HasRoom x key) (sym leaf) (room-of leaves order key number k (subst (λ (chain : List LeafState). HasRoomAt chain key) (sym c.self.view_is) room)))),
    )
