use Rattle.std.proofs.Common.{rules, ◌≡◌, ◌+◌, ◌++◌, ◌∷◌, [], List, length, inr, Err, Result, sym, ap, ◌∙◌, subst, arith}
use Rattle.std.specs.Prelude.{OnOk}
use Rattle.std.specs.List.{insert}
use Rattle.std.proofs.lemmas.List.{length-map}
use Rattle.worm_leaf.specs.Leaves.{LeafState}
use Rattle.meta_trie.specs.Tries.{Anchored, cover, IsNew}
use Rattle.meta_trie.specs.declared.trie_error.TrieError.{TrieError}
use Rattle.leaf_table.specs.declared.split_error.SplitError.TheVariants.{Full}
use Rattle.leaf_table.specs.Chains.{pairs_of, HasRoomAt}
use Rattle.leaf_table.specs.Splits.{SplitsAt}
use Rattle.leaf_table.specs.Tables.{Covers, leaf_at, chain_of}
use Rattle.leaf_table.proofs.CallLemmas.{covers-cover, leaf-is, covered}
use Rattle.leaf_table.proofs.SplitLemmas.{Parting, parting, err-on, full-at, parting-new, parting-cover, parting-place, Parted, parted}
use Rattle.leaf_table.proofs.leaf_table.LeafTable.split_at.Given.{Over}
use Rattle.leaf_table.proofs.leaf_table.LeafTable.split_at.Goals as goal

pub index-requires : goal.index-requires
index-requires g c =
    let k : Covers c.self.inside.leaves.items c.self.inside.order.items c.args.key.now c.number_of-number.result = covers-cover c.self.inside.leaves.items c.self.inside.order.items c.self.inside.trie.added c.self.invariant.0 c.args.key.now c.number_of-number.result
    c.number_of-number.ensures.cover in
    omega (arith, k.2, c.self.inside.leaves.ok.0)

pub prepare-requires-clause-full : goal.prepare-requires-clause-full
prepare-requires-clause-full g c =
    let leaves = c.self.inside.leaves.items in
    let order = c.self.inside.order.items in
    let added = c.self.inside.trie.added in
    let number = c.number_of-number.result in
    let k : Covers leaves order c.args.key.now number = covers-cover leaves order added c.self.invariant.0 c.args.key.now number c.number_of-number.ensures.cover in
    let leaf : c.index.result.now ≡ leaf_at leaves number = leaf-is leaves number c.index.result.now k.2 c.index.ensures in
    ap (λ (x : LeafState). length x.pairs) leaf
    ∙ full-at leaves order added c.self.invariant.0 c.args.key.now number k (λ room. c.requires.full (subst (λ (chain : List LeafState). HasRoomAt chain c.args.key.now) c.self.view_is room))

pub returns-in_err-right-clause-full : goal.returns-in_err-right-clause-full
returns-in_err-right-clause-full g c =
    let p : Parting c.self.inside.leaves.items c.self.inside.order.items c.self.inside.trie.added c.args.key.now c.number_of-number.result c.prepare.new.anchor = parting c.self.inside.leaves.items c.self.inside.order.items c.self.inside.trie.added c.self.invariant.0 c.args.key.now c.number_of-number.result
    c.number_of-number.ensures.cover
    (λ room. c.requires.full (subst (λ (chain : List LeafState). HasRoomAt chain c.args.key.now) c.self.view_is room))
    c.index.result.now c.index.ensures c.prepare.new.anchor c.prepare.ensures.anchor c.prepare.ensures.inside in
    let same : c.from_residual.result ≡ Err c.in_err-right.field-0.0 = search rules in
    λ e. inr (record {
      numbered = c.self.inside.leaves.items;
      order = c.self.inside.order.items;
      added = c.self.inside.trie.added;
      table = c.self.invariant.0;
      same = sym c.self.view_is;
      number = c.number_of-number.result;
      within = p.here.2;
      covered = covered c.self.inside.leaves.items c.self.inside.order.items c.args.key.now c.number_of-number.result p.here;
      anchor = c.prepare.new.anchor;
      pairs = p.full;
      parts = p.parts;
      full = c.prepare.ensures.nodes (err-on c.prepare.result c.from_residual.result c.in_err-right.field-0.0 Full c.in_err-right.was same e);
    })

pub returns-in_err-right-clause-memory : goal.returns-in_err-right-clause-memory
returns-in_err-right-clause-memory g c =
    let each = length-map c.self.inside.order.items (leaf_at c.self.inside.leaves.items) in
    λ e. omega (arith, c.if-new-eq-LEAVES_MAX.false, c.len-new.ensures, c.self.invariant.2.most, c.self.invariant.2.each, each, ap length c.self.view_is, c.self.inside.leaves.ok.0)

pub add-requires-clause-new : goal.add-requires-clause-new
add-requires-clause-new g c =
    let p : Parting c.self.inside.leaves.items c.self.inside.order.items c.self.inside.trie.added c.args.key.now c.number_of-number.result c.prepare.new.anchor = parting c.self.inside.leaves.items c.self.inside.order.items c.self.inside.trie.added c.self.invariant.0 c.args.key.now c.number_of-number.result
    c.number_of-number.ensures.cover
    (λ room. c.requires.full (subst (λ (chain : List LeafState). HasRoomAt chain c.args.key.now) c.self.view_is room))
    c.index.result.now c.index.ensures c.prepare.new.anchor c.prepare.ensures.anchor c.prepare.ensures.inside in
    subst (λ xs. IsNew xs c.as_bytes.result.now) (sym c.prepare.ensures.added) (subst (IsNew c.self.inside.trie.added) (sym c.as_bytes.ensures.bytes) (parting-new c.self.inside.leaves.items c.self.inside.order.items c.self.inside.trie.added c.args.key.now c.number_of-number.result c.prepare.new.anchor p))

pub add-requires-clause-after : goal.add-requires-clause-after
add-requires-clause-after g c =
    let p : Parting c.self.inside.leaves.items c.self.inside.order.items c.self.inside.trie.added c.args.key.now c.number_of-number.result c.prepare.new.anchor = parting c.self.inside.leaves.items c.self.inside.order.items c.self.inside.trie.added c.self.invariant.0 c.args.key.now c.number_of-number.result
    c.number_of-number.ensures.cover
    (λ room. c.requires.full (subst (λ (chain : List LeafState). HasRoomAt chain c.args.key.now) c.self.view_is room))
    c.index.result.now c.index.ensures c.prepare.new.anchor c.prepare.ensures.anchor c.prepare.ensures.inside in
    parting-cover c.self.inside.leaves.items c.self.inside.order.items c.self.inside.trie.added c.args.key.now c.number_of-number.result c.prepare.new.anchor p ∙ ap (cover c.self.inside.trie.added) (sym c.as_bytes.ensures.bytes) ∙ ap (λ xs. cover xs c.as_bytes.result.now) (sym c.prepare.ensures.added)

pub halve-requires-clause-within : goal.halve-requires-clause-within
halve-requires-clause-within g c =
    let k : Covers c.self.inside.leaves.items c.self.inside.order.items c.args.key.now c.number_of-number.result = covers-cover c.self.inside.leaves.items c.self.inside.order.items c.self.inside.trie.added c.self.invariant.0 c.args.key.now c.number_of-number.result
    c.number_of-number.ensures.cover in
    omega (arith, k.2, c.self.inside.leaves.ok.0)

pub halve-requires-clause-full : goal.halve-requires-clause-full
halve-requires-clause-full g c =
    let p : Parting c.self.inside.leaves.items c.self.inside.order.items c.self.inside.trie.added c.args.key.now c.number_of-number.result c.prepare.new.anchor = parting c.self.inside.leaves.items c.self.inside.order.items c.self.inside.trie.added c.self.invariant.0 c.args.key.now c.number_of-number.result
    c.number_of-number.ensures.cover
    (λ room. c.requires.full (subst (λ (chain : List LeafState). HasRoomAt chain c.args.key.now) c.self.view_is room))
    c.index.result.now c.index.ensures c.prepare.new.anchor c.prepare.ensures.anchor c.prepare.ensures.inside in
    p.full

pub halve-requires-clause-anchor : goal.halve-requires-clause-anchor
halve-requires-clause-anchor g c =
    let p : Parting c.self.inside.leaves.items c.self.inside.order.items c.self.inside.trie.added c.args.key.now c.number_of-number.result c.prepare.new.anchor = parting c.self.inside.leaves.items c.self.inside.order.items c.self.inside.trie.added c.self.invariant.0 c.args.key.now c.number_of-number.result
    c.number_of-number.ensures.cover
    (λ room. c.requires.full (subst (λ (chain : List LeafState). HasRoomAt chain c.args.key.now) c.self.view_is room))
    c.index.result.now c.index.ensures c.prepare.new.anchor c.prepare.ensures.anchor c.prepare.ensures.inside in
    p.parts

pub insert_after-requires-clause-there : goal.insert_after-requires-clause-there
insert_after-requires-clause-there g c =
    let p : Parting c.self.inside.leaves.items c.self.inside.order.items c.self.inside.trie.added c.args.key.now c.number_of-number.result c.prepare.new.anchor = parting c.self.inside.leaves.items c.self.inside.order.items c.self.inside.trie.added c.self.invariant.0 c.args.key.now c.number_of-number.result
    c.number_of-number.ensures.cover
    (λ room. c.requires.full (subst (λ (chain : List LeafState). HasRoomAt chain c.args.key.now) c.self.view_is room))
    c.index.result.now c.index.ensures c.prepare.new.anchor c.prepare.ensures.anchor c.prepare.ensures.inside in
    parting-place c.self.inside.leaves.items c.self.inside.order.items c.self.inside.trie.added c.args.key.now c.number_of-number.result c.prepare.new.anchor p

-- the table after the last step
split : (g : Over) (c : goal.After-insert_after g) → Parted c.self.inside.leaves.items c.self.inside.order.items c.args.key.now c.halve.new.leaves.items c.insert_after.new.order.items c.add.new.self.added
split g c =
    let p : Parting c.self.inside.leaves.items c.self.inside.order.items c.self.inside.trie.added c.args.key.now c.number_of-number.result c.prepare.new.anchor = parting c.self.inside.leaves.items c.self.inside.order.items c.self.inside.trie.added c.self.invariant.0 c.args.key.now c.number_of-number.result
    c.number_of-number.ensures.cover
    (λ room. c.requires.full (subst (λ (chain : List LeafState). HasRoomAt chain c.args.key.now) c.self.view_is room))
    c.index.result.now c.index.ensures c.prepare.new.anchor c.prepare.ensures.anchor c.prepare.ensures.inside in
    let len : c.len-new.result ≡ length c.self.inside.leaves.items = omega (arith, c.len-new.ensures, c.self.inside.leaves.ok.0) in
    parted c.self.inside.leaves.items c.self.inside.order.items c.self.inside.trie.added c.args.key.now c.number_of-number.result c.prepare.new.anchor p
    c.halve.new.leaves.items c.halve.ensures.halves
    c.insert_after.new.order.items (λ place there. c.insert_after.ensures.inserted place there ∙ ap (insert c.self.inside.order.items (place + 1)) len)
    c.add.new.self.added
    (subst (λ (r : Result (Unit {0}) TrieError). OnOk r (c.add.new.self.added ≡ c.prepare.new.trie.added ++ record { anchor = c.as_bytes.result.now; leaf = c.len-new.result } ∷ [])) c.unwrap.ensures c.add.ensures.added
    ∙ ap (λ (xs : List Anchored). xs ++ record { anchor = c.as_bytes.result.now; leaf = c.len-new.result } ∷ []) c.prepare.ensures.added
    ∙ ap (λ anchor. c.self.inside.trie.added ++ record { anchor = anchor; leaf = c.len-new.result } ∷ []) c.as_bytes.ensures.bytes
    ∙ ap (λ n. c.self.inside.trie.added ++ record { anchor = c.prepare.new.anchor; leaf = n } ∷ []) len)

pub invariant_of-self-2 : goal.invariant_of-self-2
invariant_of-self-2 g c =
    let after = split g c in (
      after.table,
      c.self.invariant.1 ∙ ap length (sym after.pairs),
      record {
        each = after.order_one ∙ ap (λ n. n + 1) c.self.invariant.2.each ∙ sym after.leaves_one;
        most = omega (arith, c.self.invariant.2.most, after.leaves_one, c.halve.new.leaves.ok.0, c.self.inside.leaves.ok.0, c.in_ok-right.ensures.one, c.if-new-eq-LEAVES_MAX.false, c.len-new.ensures);
        leaves = omega (arith, c.self.invariant.2.leaves, c.halve.ensures.capacity);
        order = omega (arith, c.self.invariant.2.order, c.insert_after.ensures.capacity);
        spare = omega (arith, c.self.invariant.2.spare, c.prepare.ensures.capacity);
        fresh = c.prepare.ensures.unused;
      },
      omega (arith, c.self.invariant.3, after.leaves_one),
    )

pub returns-clause-pairs : goal.returns-clause-pairs
returns-clause-pairs g c = (split g c).pairs ∙ ap pairs_of c.self.view_is

pub returns-clause-halves : goal.returns-clause-halves
returns-clause-halves g c = subst (λ (chain : List LeafState). SplitsAt chain c.args.key.now (chain_of c.halve.new.leaves.items c.insert_after.new.order.items)) c.self.view_is (split g c).halved

pub returns-clause-one : goal.returns-clause-one
returns-clause-one g c =
    length-map c.insert_after.new.order.items (leaf_at c.halve.new.leaves.items) ∙ (split g c).order_one
    ∙ ap (λ n. n + 1) (sym (length-map c.self.inside.order.items (leaf_at c.self.inside.leaves.items)) ∙ ap length c.self.view_is)

pub returns-clause-room : goal.returns-clause-room
returns-clause-room g c = (split g c).room
