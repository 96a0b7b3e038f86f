use Rattle.std.proofs.Common.{◌≡◌, ◌++◌, ◌∷◌, [], List, refl, ap, ◌∙◌}
use Rattle.std.specs.Prelude.{None}
use Rattle.meta_trie.specs.declared.leaf_entry.LeafEntry.{LeafEntry}
use Rattle.meta_trie.proofs.RootLemmas.{first-trie}
use Rattle.meta_trie.proofs.trie.MetaTrie.make.Goals as goal

pub invariant_of-result : goal.invariant_of-result
invariant_of-result c =
    let entry : LeafEntry = record { anchor = c.new.result; leaf = 0; previous = 0; next = None } in
    let items : c.push.new.self.items ≡ entry ∷ [] = c.in_ok-push.ensures.items ∙ ap (λ (xs : List LeafEntry). xs ++ entry ∷ []) c.new-leaves.ensures.items in
    (first-trie c.push.new.self.items c.in_ok-table.table entry c.begin.result items c.new.ensures.items refl refl refl c.begin.ensures c.in_ok-table.ensures, tt)
