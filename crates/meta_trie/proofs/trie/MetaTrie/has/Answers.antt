use Rattle.std.proofs.Common.{◌≡◌, ℕ, List, ap, subst}
use Rattle.meta_trie.specs.Leaves.{all_of}
use Rattle.meta_trie.specs.Nodes.{Pick}
use Rattle.meta_trie.specs.Tries.{Anchored, TrieState, IsNew}
use Rattle.meta_trie.specs.declared.leaf_entry.LeafEntry.{LeafEntry}
use Rattle.meta_trie.proofs.PresenceLemmas.{new-rest}
use Rattle.meta_trie.proofs.trie.MetaTrie.has.Goals as goal

pub returns-clause-new : goal.returns-clause-new
returns-clause-new g c =
    let leaves = c.self.inside.leaves.items in
    let anchor = c.args.anchor.now in
    λ no. subst (λ (z : List Anchored). IsNew z anchor) (ap (λ (t : TrieState). t.added) c.self.view_is)
    (new-rest (all_of leaves) anchor c.self.invariant.0.root
    (subst (λ (l : List LeafEntry). (j : ℕ) (b : Anchored) → Pick (all_of l) j b → b.anchor ≡ anchor → ⊥) c.as_slice-2.ensures.value (c.is_anchor_at.ensures.new no)))
