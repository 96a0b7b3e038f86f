use Rattle.std.proofs.Common.{ℕ, [], ◌∷◌, ◌++◌, take, drop, sym, ap, ◌∙◌, subst}
use Rattle.std.specs.Prelude.{Some, None}
use Rattle.meta_trie.specs.Leaves.{all_of}
use Rattle.meta_trie.specs.Tables.{node_at}
use Rattle.meta_trie.specs.Nodes.{Best, NextBelow}
use Rattle.meta_trie.specs.Tries.{Anchored}
use Rattle.meta_trie.proofs.FindLemmas.{has-empty, has-shorter, next-there, gone, found-child, found-own, found-before, pick-in, before-at}
use Rattle.meta_trie.proofs.finding.holder.Goals as goal
use Rattle.rdb_base.proofs.PlaceLemmas.{take_then_drop}

pub longest-len-requires-clause-first : goal.longest-len-requires-clause-first
longest-len-requires-clause-first g c = has-empty _ _ (node_at c.args.table.now) c.requires.stands c.requires.root

pub longest-len-requires-clause-closed : goal.longest-len-requires-clause-closed
longest-len-requires-clause-closed g c = has-shorter _ _ (node_at c.args.table.now) c.requires.stands c.args.key.now

pub in_branch-requires-clause-there : goal.in_branch-requires-clause-there
in_branch-requires-clause-there g c = next-there _ _ (node_at c.args.table.now) c.requires.stands c.split_at.result.0.now c.in-Some.node.now c.in-Some-next_below.byte (sym (c.in-Some.ensures).node) (c.in-Some-next_below.ensures).4

pub in_branch-requires-clause-child : goal.in_branch-requires-clause-child
in_branch-requires-clause-child g c = λ m there.
    let at = node_at c.args.table.now in
    let key = c.args.key.now in
    let len = c.longest-len.result in
    found-child _ _ at c.requires.stands (take len key) (drop len key) key c.in-Some.node.now m c.in-Some-next_below.byte
    (ap at (sym c.split_at.ensures.front) ∙ sym (c.in-Some.ensures).node)
    (sym (take_then_drop len key))
    (gone _ _ at c.requires.stands key len c.longest-len.ensures.longest)
    (subst (λ z. NextBelow c.in-Some.node.now z (Some c.in-Some-next_below.byte)) c.split_at.ensures.back (c.in-Some-next_below.ensures))
    (ap (λ z. at (z ++ c.in-Some-next_below.byte ∷ [])) (sym c.split_at.ensures.front) ∙ there)

pub returns-then-node-clause-best : goal.returns-then-node-clause-best
returns-then-node-clause-best g c =
    let at = node_at c.args.table.now in
    let key = c.args.key.now in
    let len = c.longest-len.result in
    found-own _ _ at c.requires.stands (take len key) (drop len key) key c.in-Some.node.now
    (ap at (sym c.split_at.ensures.front) ∙ sym (c.in-Some.ensures).node)
    (sym (take_then_drop len key))
    (gone _ _ at c.requires.stands key len c.longest-len.ensures.longest)
    (subst (λ z. NextBelow c.in-Some.node.now z None) c.split_at.ensures.back (c.in-None.ensures))
    c.if-node.true

pub bounds-leaves-node : goal.bounds-leaves-node
bounds-leaves-node g c = let least = (c.requires.stands.nodes c.split_at.result.0.now c.in-Some.node.now (sym (c.in-Some.ensures).node)).least in pick-in c.args.leaves.now c.in-Some.node.now.least least.0 least.1.pick

pub bounds-leaves-node-else-node : goal.bounds-leaves-node-else-node
bounds-leaves-node-else-node g c = let least = (c.requires.stands.nodes c.split_at.result.0.now c.in-Some.node.now (sym (c.in-Some.ensures).node)).least in pick-in c.args.leaves.now c.in-Some.node.now.least least.0 least.1.pick

pub returns-else-node-clause-best : goal.returns-else-node-clause-best
returns-else-node-clause-best g c =
    let at = node_at c.args.table.now in
    let key = c.args.key.now in
    let len = c.longest-len.result in
    let least = (c.requires.stands.nodes c.split_at.result.0.now c.in-Some.node.now (sym (c.in-Some.ensures).node)).least in
    subst (λ (i : ℕ). (a : Anchored) × Best (all_of c.args.leaves.now) key i a)
    (before-at c.args.leaves.now c.in-Some.node.now.least c.index-leaves-node.result (pick-in c.args.leaves.now c.in-Some.node.now.least least.0 least.1.pick))
    (found-before _ _ at c.requires.stands (take len key) (drop len key) key c.in-Some.node.now
    (ap at (sym c.split_at.ensures.front) ∙ sym (c.in-Some.ensures).node)
    (sym (take_then_drop len key))
    (gone _ _ at c.requires.stands key len c.longest-len.ensures.longest)
    (subst (λ z. NextBelow c.in-Some.node.now z None) c.split_at.ensures.back (c.in-None.ensures))
    c.if-node.false)
