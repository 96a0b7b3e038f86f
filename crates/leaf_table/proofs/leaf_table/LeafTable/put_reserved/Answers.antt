use Rattle.std.proofs.Common.{◌≡◌, ◌+◌, ◌<◌, List, sym, ap, ◌∙◌, subst, arith}
use Rattle.std.specs.Prelude.{is_some, if◌then◌else◌}
use Rattle.worm_leaf.specs.Leaves.{LeafState, covers}
use Rattle.meta_trie.specs.Tries.{cover}
use Rattle.rdb_base.specs.Runs.{IsRun, change_at}
use Rattle.rdb_base.specs.Levels.{with_pair}
use Rattle.leaf_table.specs.Chains.{pairs_of, lows_of, HasRoom, HasRoomAt}
use Rattle.leaf_table.specs.Tables.{Covers, leaf_at, chain_of}
use Rattle.leaf_table.proofs.CallLemmas.{covers-cover, leaf-is, found, covered, room-of, pairs-put, lows-put, IsRun-table, put-table, put-count, length-parts}
use Rattle.std.proofs.lemmas.List.{length-set, length-map}
use Rattle.leaf_table.proofs.leaf_table.LeafTable.put_reserved.Goals as goal

pub index_mut-requires : goal.index_mut-requires
index_mut-requires g c =
    let leaves = c.self.inside.leaves.items in
    let k : Covers leaves c.self.inside.order.items c.args.pair.key c.number_of-number.result = covers-cover leaves c.self.inside.order.items c.self.inside.trie.added c.self.invariant.0 c.args.pair.key c.number_of-number.result c.number_of-number.ensures.cover in
    omega (arith, k.2, c.self.inside.leaves.ok.0)

pub put_reserved-old-requires-clause-covered : goal.put_reserved-old-requires-clause-covered
put_reserved-old-requires-clause-covered g c =
    let leaves = c.self.inside.leaves.items in
    let order = c.self.inside.order.items in
    let key = c.args.pair.key in
    let number = c.number_of-number.result in
    let k : Covers leaves order key number = covers-cover leaves order c.self.inside.trie.added c.self.invariant.0 key number c.number_of-number.ensures.cover in
    let leaf : c.index_mut.result.now ≡ leaf_at leaves number = leaf-is leaves number c.index_mut.result.now k.2 c.index_mut.ensures.value in
    ap (λ (x : LeafState). covers x key) leaf ∙ covered leaves order key number k

pub put_reserved-old-requires-clause-room : goal.put_reserved-old-requires-clause-room
put_reserved-old-requires-clause-room g c =
    let leaves = c.self.inside.leaves.items in
    let order = c.self.inside.order.items in
    let key = c.args.pair.key in
    let number = c.number_of-number.result in
    let k : Covers leaves order key number = covers-cover leaves order c.self.inside.trie.added c.self.invariant.0 key number c.number_of-number.ensures.cover in
    let leaf : c.index_mut.result.now ≡ leaf_at leaves number = leaf-is leaves number c.index_mut.result.now k.2 c.index_mut.ensures.value in
    subst (λ (x : LeafState). HasRoom x key) (sym leaf) (room-of leaves order key number k (subst (λ (chain : List LeafState). HasRoomAt chain key) (sym c.self.view_is) c.requires.room))

pub count_with-self-inside-requires : goal.count_with-self-inside-requires
count_with-self-inside-requires g c =
    let leaves = c.self.inside.leaves.items in
    let order = c.self.inside.order.items in
    let most = length-parts (chain_of leaves order) c.self.invariant.0.parts in
    let each = length-map order (leaf_at leaves) in
    omega (arith, most, each, c.self.invariant.1, c.self.invariant.2.each, c.self.invariant.2.most)

pub invariant_of-self : goal.invariant_of-self
invariant_of-self g c =
    let leaves = c.self.inside.leaves.items in
    let order = c.self.inside.order.items in
    let added = c.self.inside.trie.added in
    let pair = c.args.pair in
    let number = c.number_of-number.result in
    let new = c.put_reserved-old.new.self in
    let t = c.self.invariant.0 in
    let k : Covers leaves order pair.key number = covers-cover leaves order added t pair.key number c.number_of-number.ensures.cover in
    let leaf : c.index_mut.result.now ≡ leaf_at leaves number = leaf-is leaves number c.index_mut.result.now k.2 c.index_mut.ensures.value in
    let new_is : new ≡ record (leaf_at leaves number) { pairs = with_pair (leaf_at leaves number).pairs pair } =
    c.put_reserved-old.ensures.set ∙ ap (λ (x : LeafState). record x { pairs = with_pair x.pairs pair }) leaf in
    let room : HasRoom (leaf_at leaves number) pair.key = room-of leaves order pair.key number k (subst (λ (chain : List LeafState). HasRoomAt chain pair.key) (sym c.self.view_is) c.requires.room) in
    let old : c.put_reserved-old.result ≡ change_at (leaf_at leaves number).pairs pair.key = c.put_reserved-old.ensures.old ∙ ap (λ (x : LeafState). change_at x.pairs pair.key) leaf in (
      put-table leaves order added t pair number k room new new_is,
      c.count_with-self-inside.ensures
          ∙ ap (λ o. if is_some o then c.self.inside.count else c.self.inside.count + 1) old
          ∙ ap (λ n. if is_some (change_at (leaf_at leaves number).pairs pair.key) then n else n + 1) c.self.invariant.1
          ∙ sym (put-count leaves order added t pair number k new (ap (λ (x : LeafState). x.pairs) new_is)),
      record {
        each = c.self.invariant.2.each ∙ sym (length-set leaves number new);
        most = c.self.invariant.2.most;
        leaves = c.self.invariant.2.leaves;
        order = c.self.invariant.2.order;
        spare = c.self.invariant.2.spare;
        fresh = c.self.invariant.2.fresh;
      },
      subst (λ len. number < len) (sym (length-set leaves number new)) k.2,
    )

pub returns-clause-set : goal.returns-clause-set
returns-clause-set g c =
    let leaves = c.self.inside.leaves.items in
    let order = c.self.inside.order.items in
    let added = c.self.inside.trie.added in
    let pair = c.args.pair in
    let number = c.number_of-number.result in
    let new = c.put_reserved-old.new.self in
    let t = c.self.invariant.0 in
    let k : Covers leaves order pair.key number = covers-cover leaves order added t pair.key number c.number_of-number.ensures.cover in
    let leaf : c.index_mut.result.now ≡ leaf_at leaves number = leaf-is leaves number c.index_mut.result.now k.2 c.index_mut.ensures.value in
    let new_is : new ≡ record (leaf_at leaves number) { pairs = with_pair (leaf_at leaves number).pairs pair } =
    c.put_reserved-old.ensures.set ∙ ap (λ (x : LeafState). record x { pairs = with_pair x.pairs pair }) leaf in
    pairs-put leaves order added t pair number k new (ap (λ (x : LeafState). x.pairs) new_is)
    ∙ ap (λ (chain : List LeafState). with_pair (pairs_of chain) c.args.pair) c.self.view_is

pub returns-clause-old : goal.returns-clause-old
returns-clause-old g c =
    let leaves = c.self.inside.leaves.items in
    let order = c.self.inside.order.items in
    let added = c.self.inside.trie.added in
    let pair = c.args.pair in
    let number = c.number_of-number.result in
    let t = c.self.invariant.0 in
    let k : Covers leaves order pair.key number = covers-cover leaves order added t pair.key number c.number_of-number.ensures.cover in
    let leaf : c.index_mut.result.now ≡ leaf_at leaves number = leaf-is leaves number c.index_mut.result.now k.2 c.index_mut.ensures.value in
    let old : c.put_reserved-old.result ≡ change_at (leaf_at leaves number).pairs pair.key = c.put_reserved-old.ensures.old ∙ ap (λ (x : LeafState). change_at x.pairs pair.key) leaf in
    old ∙ found leaves order pair.key number k ∙ ap (λ (chain : List LeafState). change_at (pairs_of chain) pair.key) c.self.view_is

pub returns-clause-rises : goal.returns-clause-rises
returns-clause-rises g c = subst (λ (chain : List LeafState). IsRun (pairs_of chain)) c.self.view_is (IsRun-table c.self.inside.leaves.items c.self.inside.order.items c.self.invariant.0.parts)

pub returns-clause-ranges : goal.returns-clause-ranges
returns-clause-ranges g c =
    let leaves = c.self.inside.leaves.items in
    let order = c.self.inside.order.items in
    let added = c.self.inside.trie.added in
    let key = c.args.pair.key in
    let number = c.number_of-number.result in
    let t = c.self.invariant.0 in
    let k : Covers leaves order key number = covers-cover leaves order added t key number c.number_of-number.ensures.cover in
    let leaf : c.index_mut.result.now ≡ leaf_at leaves number = leaf-is leaves number c.index_mut.result.now k.2 c.index_mut.ensures.value in
    lows-put leaves order added t key number k c.put_reserved-old.new.self (ap (λ (x : LeafState). x.low) c.put_reserved-old.ensures.set ∙ ap (λ (x : LeafState). x.low) leaf)
    ∙ ap lows_of c.self.view_is
