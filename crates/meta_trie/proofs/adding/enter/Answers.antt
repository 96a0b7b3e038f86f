use Rattle.std.proofs.Common.{rules, ◌≡◌, ◌≤◌, ◌<◌, ℕ, List, length, take, subst, arith}
use Rattle.meta_trie.specs.declared.leaf_entry.LeafEntry.{LeafEntry}
use Rattle.meta_trie.specs.Growths.{GrownAt, BegunAt}
use Rattle.meta_trie.specs.Leaves.{all_of}
use Rattle.meta_trie.specs.Tables.{node_at}
use Rattle.meta_trie.proofs.EnterLemmas.{entered-trie}
use Rattle.meta_trie.proofs.adding.enter.Goals as goal

pub returns-clause-trie : goal.returns-clause-trie
returns-clause-trie c =
    let leaves = c.args.leaves.now.items in
    let ready = c.args.ready in
    let anchor = ready.anchor.items in
    let len = ready.len in
    let table = c.args.table.now in
    let mid = c.grow_all.new.table in
    let now = c.begin_all.new.table in
    let place : c.len-place.result ≡ length leaves = search rules in
    entered-trie leaves table mid now ready c.args.leaf c.requires.trie.stands c.requires.trie.nexts c.requires.ready c.requires.fresh c.link_in.new.leaves.items c.requires.trie
    (subst (λ (xs : List LeafEntry). (k : ℕ) → k ≤ len → GrownAt (all_of xs) anchor k mid) c.as_slice.ensures.value (subst (λ (z : List ℕ). (k : ℕ) → k ≤ len → GrownAt (all_of c.as_slice.result.now) z k mid) c.as_slice-2.ensures.value c.grow_all.ensures.grown))
    (subst (λ (z : List ℕ). (q : List ℕ) → ((k : ℕ) → k ≤ len → q ≡ take k z → ⊥) → node_at mid q ≡ node_at table q) c.as_slice-2.ensures.value c.grow_all.ensures.others)
    (subst (λ (p : ℕ). (k : ℕ) → len < k → k ≤ length anchor → BegunAt anchor k p now) place (subst (λ (z : List ℕ). (k : ℕ) → len < k → k ≤ length z → BegunAt z k c.len-place.result now) c.as_slice-3.ensures.value c.begin_all.ensures.begun))
    (subst (λ (z : List ℕ). (q : List ℕ) → ((k : ℕ) → len < k → k ≤ length z → q ≡ take k z → ⊥) → node_at now q ≡ node_at mid q) c.as_slice-3.ensures.value c.begin_all.ensures.others)
    (omega (arith, c.begin_all.ensures.count, c.grow_all.ensures.count, c.as_slice-3.ensures.len))
    c.link_in.ensures.added
    c.link_in.ensures.previouses
    c.link_in.ensures.nexts
